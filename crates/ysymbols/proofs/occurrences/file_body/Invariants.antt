use Rattle.std.proofs.Common.{◌≡◌, length}
use Rattle.ysymbols.specs.Marking.{lists_of}
use Rattle.ysymbols.proofs.FilingSteps.{FiledSoFar}
use Rattle.ysymbols.proofs.occurrences.file_body.Given as goal

abbrev pub invariant-loop-s : goal.invariant-loop-s
invariant-loop-s l = record {
  sized : length l.lists.items ≡ length l.fn.lists.items;
  filed : FiledSoFar l.body l.s-index l.r (lists_of l.fn.lists) (lists_of l.lists);
}
