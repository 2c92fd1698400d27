use Rattle.std.proofs.Common.{ℕ, ◌≡◌, ◌<◌, length}
use Rattle.ysymbols.specs.Marking.{IsMarked}
use Rattle.ysymbols.proofs.productive.token_marks.Given as goal

abbrev pub invariant-loop-t : goal.invariant-loop-t
invariant-loop-t l = record {
  sized : length l.marks.items ≡ l.symbols;
  marked : (s : ℕ) → s < l.t → IsMarked l.marks.items s;
  only : (s : ℕ) → IsMarked l.marks.items s → s < l.t;
}
