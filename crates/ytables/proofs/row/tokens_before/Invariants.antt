use Rattle.std.proofs.Common.{◌≡◌, ◌<◌, ℕ, length, false, take, slice_index_or}
use Rattle.ytables.specs.Tables.{has_before}
use Rattle.ytables.proofs.row.tokens_before.Given as goal

abbrev pub invariant-loop-item : goal.invariant-loop-item
invariant-loop-item l = record {
  len : length l.marks.items ≡ l.tokens;
  marks : (t : ℕ) → t < l.tokens → slice_index_or l.marks.items t false ≡ has_before l.grammar.bare
      (take l.item-index l.items) t;
}
