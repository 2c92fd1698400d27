use Rattle.std.proofs.Common.{ℕ, ◌≡◌, [], length}
use Rattle.ysymbols.specs.Marking.{list_at, lists_of}
use Rattle.ysymbols.proofs.occurrences.empty_lists.Given as goal

abbrev pub invariant-loop : goal.invariant-loop
invariant-loop l = record {
  sized : length l.lists.items ≡ l.counter;
  empty : (s : ℕ) → list_at (lists_of l.lists) s ≡ [];
}
