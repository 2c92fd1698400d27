use Rattle.std.proofs.Common.{◌-◌, vec_len}
use Rattle.ybitsets.specs.Packed.{SameCells}
use Rattle.ybitsets.proofs.packed.grow.Given as goal

abbrev pub invariant-loop-cells : goal.invariant-loop-cells
invariant-loop-cells g l = SameCells l.initial.cells.items l.cells.items l.initial.owners.items
    l.owners.items

abbrev pub decreases-loop-cells : goal.decreases-loop-cells
decreases-loop-cells g l = l.end - vec_len l.owners
