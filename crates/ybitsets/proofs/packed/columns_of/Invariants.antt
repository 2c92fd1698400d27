use Rattle.std.proofs.Common.{◌<◌, length, All}
use Rattle.ybitsets.proofs.packed.columns_of.Given as goal

abbrev pub invariant-loop-t : goal.invariant-loop-t
invariant-loop-t g l = All (λ t. t < length l.row) l.columns.items
