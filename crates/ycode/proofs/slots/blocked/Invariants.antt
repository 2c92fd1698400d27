use Rattle.std.proofs.Common.{ℕ, ◌≡◌, ◌<◌, ◌+◌}
use Rattle.std.specs.Int.{bit_at}
use Rattle.ycode.specs.Slots.{MeetsTaken}
use Rattle.ycode.proofs.slots.blocked.Given as goal

abbrev pub invariant-loop-t : goal.invariant-loop-t
invariant-loop-t l = (i : ℕ) → i < 64 → bit_at l.blocked i ≡ 1 →
    MeetsTaken l.words l.columns (l.d + i)
