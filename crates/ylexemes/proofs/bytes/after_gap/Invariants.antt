use Rattle.std.proofs.Common.{length}
use Rattle.ylexemes.proofs.Gaps.{GapSoFar}
use Rattle.ylexemes.proofs.bytes.after_gap.Given as goal

abbrev pub invariant-loop-rest : goal.invariant-loop-rest
invariant-loop-rest l = GapSoFar l.bytes l.rest

abbrev pub decreases-loop-rest : goal.decreases-loop-rest
decreases-loop-rest l = length l.rest
