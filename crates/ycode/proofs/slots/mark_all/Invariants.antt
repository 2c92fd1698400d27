use Rattle.std.proofs.Common.{ℕ, ◌⊎◌}
use Rattle.ycode.specs.Slots.{IsTaken, IsMoved}
use Rattle.ycode.proofs.slots.mark_all.Given as goal

abbrev pub invariant-loop-t : goal.invariant-loop-t
invariant-loop-t l = (i : ℕ) → IsTaken l.words.items i →
    IsMoved l.columns l.d i ⊎ IsTaken l.initial.words.items i
