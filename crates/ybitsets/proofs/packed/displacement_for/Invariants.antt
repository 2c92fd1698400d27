use Rattle.std.proofs.Common.{◌-◌, length}
use Rattle.ybitsets.proofs.packed.displacement_for.Given as goal

abbrev pub decreases-loop-d : goal.decreases-loop-d
decreases-loop-d g l = length l.owners - l.d
