use Rattle.std.proofs.Common.{take}
use Rattle.ysymbols.specs.Forms.{Nullable, First}
use Rattle.ylalr.specs.Collection.{bare_of}
use Rattle.yprovenance.proofs.front.front_of.Given as goal

-- the symbols so far vanish, and no form of them begins with the token
abbrev pub invariant-loop-s : goal.invariant-loop-s
invariant-loop-s l = record {
  vanished : Nullable (bare_of l.automaton) (take l.s-index l.form);
  none : First (bare_of l.automaton) (take l.s-index l.form) l.token → ⊥;
}
