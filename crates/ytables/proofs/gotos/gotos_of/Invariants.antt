use Rattle.std.proofs.Common.{ℕ, ◌≡◌, ◌<◌, ◌+◌, length, None, take, slice_index_or, if◌then◌else◌}
use Rattle.ylalr.specs.Collection.{goto_in}
use Rattle.ytables.specs.Tables.{has_before}
use Rattle.ytables.proofs.gotos.gotos_of.Given as goal

abbrev pub invariant-loop-item : goal.invariant-loop-item
invariant-loop-item l = record {
  len : length l.row.items + l.tokens ≡ l.automaton.grammar.bare.symbols;
  gotos : (x : ℕ) → x < length l.row.items
      → slice_index_or l.row.items x None ≡ (if has_before l.automaton.grammar.bare
      (take l.item-index l.items) (l.tokens + x) then goto_in l.automaton l.q (l.tokens + x)
      else None);
}
