use Rattle.std.proofs.Common.{◌≡◌, ◌+◌, length}
use Rattle.ybitsets.specs.Waiting.{AreListed}
use Rattle.ybitsets.proofs.waiting.Waiting.take.Given as goal

abbrev pub invariant-loop-p : goal.invariant-loop-p
invariant-loop-p l = record {
  same : l.self-inside.marks ≡ l.initial.self-inside.marks;
  listed : AreListed l.self-inside.marks l.self-inside.round.items l.self-inside.next.items;
}

abbrev pub decreases-loop-p : goal.decreases-loop-p
decreases-loop-p l = length l.self-inside.round.items + length l.self-inside.next.items
