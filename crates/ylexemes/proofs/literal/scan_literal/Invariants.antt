use Rattle.std.proofs.Common.{◌≡◌, length}
use Rattle.ylexemes.specs.declared.literal.Stage.TheVariants.{Opened}
use Rattle.ylexemes.specs.Stages.{scan}
use Rattle.ylexemes.proofs.literal.scan_literal.Given as goal

abbrev pub invariant-loop-rest : goal.invariant-loop-rest
invariant-loop-rest l = scan l.stage l.rest ≡ scan Opened l.bytes

abbrev pub decreases-loop-rest : goal.decreases-loop-rest
decreases-loop-rest l = length l.rest
