use Rattle.std.proofs.Common.{ℕ, ◌<◌}
use Rattle.ygrammar.specs.Numbers.{IsFaulty}
use Rattle.ygrammar.proofs.holders.first_at_fault.Given as goal

abbrev pub invariant-loop-i : goal.invariant-loop-i
invariant-loop-i l = (j : ℕ) → j < l.i → IsFaulty l.listed l.fn.fault l.holders j → ⊥
