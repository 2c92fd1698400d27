use Rattle.std.proofs.Common.{ℕ, ◌≡◌, ◌+◌, ◌*◌, length}
use Rattle.ybitsets.specs.Marks.{Has, gaps}
use Rattle.ybitsets.specs.Order.{AreTurns}
use Rattle.ybitsets.proofs.OrderSteps.{size_of}
use Rattle.ybitsets.proofs.order.walk.Given as goal

abbrev pub invariant-loop-turn : goal.invariant-loop-turn
invariant-loop-turn l = record {
  sized : length l.seen ≡ length l.initial.seen;
  turns : AreTurns l.seen l.turns.items l.order.items;
  kept : (p : ℕ) → Has l.initial.seen p → Has l.seen p;
}

abbrev pub decreases-loop-turn : goal.decreases-loop-turn
decreases-loop-turn l = gaps l.seen * (size_of l.links + 2) + length l.turns.items
