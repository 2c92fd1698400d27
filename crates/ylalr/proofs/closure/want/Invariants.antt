use Rattle.std.proofs.Common.{length}
use Rattle.ybitsets.specs.Rows.{IsSized}
use Rattle.ylalr.proofs.ListSteps.{Wanting}
use Rattle.ylalr.proofs.closure.want.Given as goal

abbrev pub invariant-loop-item : goal.invariant-loop-item
invariant-loop-item l = record {
  sized : IsSized 1 (length l.grammar.bare.rules) l.wanted;
  wanting : Wanting l.grammar.bare l.kernel l.item-index l.wanted;
}
