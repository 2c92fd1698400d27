use Rattle.std.proofs.Common.{ℕ, ◌<◌, ◌-◌, length}
use Rattle.ysymbols.specs.Marking.{Keeps, IsSpread, OnlyReachable, numbered_grammar, rule_at}
use Rattle.ysymbols.proofs.reachable.spread.Given as goal

abbrev pub invariant-loop-s : goal.invariant-loop-s
invariant-loop-s l = record {
  keeps : Keeps l.initial.list.marks l.list.marks;
  spread : (k : ℕ) → k < length l.rules → IsSpread (rule_at l.rules k) l.list;
  sound : (tokens symbols : ℕ) → OnlyReachable (numbered_grammar tokens symbols l.rules)
      l.initial.list.marks → OnlyReachable (numbered_grammar tokens symbols l.rules) l.list.marks;
}

abbrev pub decreases-loop-s : goal.decreases-loop-s
decreases-loop-s l = length l.list.marks - l.list.taken
