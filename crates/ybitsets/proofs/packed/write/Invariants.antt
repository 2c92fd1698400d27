use Rattle.ybitsets.specs.Packed.{IsWritten, FitsFrom}
use Rattle.ybitsets.proofs.packed.write.Given as goal

abbrev pub invariant-loop-t : goal.invariant-loop-t
invariant-loop-t g l = record {
  written : IsWritten l.t l.initial.cells l.cells l.initial.owners l.owners l.n l.d l.row;
  fits : FitsFrom l.t l.owners l.row l.d;
}
