use Rattle.std.proofs.Common.{◌≡◌, length}
use Rattle.ylexemes.specs.Views.{pair_after}
use Rattle.ylexemes.proofs.bytes.after_pair.Given as goal

abbrev pub invariant-loop-rest : goal.invariant-loop-rest
invariant-loop-rest l = pair_after l.first l.second l.rest ≡ pair_after l.first l.second l.bytes

abbrev pub decreases-loop-rest : goal.decreases-loop-rest
decreases-loop-rest l = length l.rest
