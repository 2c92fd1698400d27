use Rattle.std.proofs.Common.{ℕ, ◌≡◌, ◌<◌, [], length}
use Rattle.ybitsets.specs.Marks.{Has}
use Rattle.ybitsets.specs.Order.{AreTurns}
use Rattle.ybitsets.proofs.order.order_of.Given as goal

abbrev pub invariant-loop-p : goal.invariant-loop-p
invariant-loop-p l = record {
  sized : length l.seen ≡ l.count;
  turns : AreTurns l.seen l.turns.items l.order.items;
  none : l.turns.items ≡ [];
  seen : (k : ℕ) → k < l.p → Has l.seen k;
}
