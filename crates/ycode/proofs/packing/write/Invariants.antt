use Rattle.ycode.specs.Packing.{IsWritten}
use Rattle.ycode.proofs.packing.write.Given as goal

abbrev pub invariant-loop-t : goal.invariant-loop-t
invariant-loop-t l = IsWritten l.t l.d l.row l.initial.checks l.checks l.initial.values l.values
