use Rattle.std.proofs.Common.{◌∙◌, refl, arith}
use Rattle.ysymbols.specs.Marking.{lists_of}
use Rattle.ysymbols.proofs.FilingSteps.{filed_more}
use Rattle.ysymbols.proofs.occurrences.file_body.Goals as goal

pub loop-s-preserved : goal.loop-s-preserved
loop-s-preserved c = record {
  sized = c.in_ok-file.ensures.sized ∙ c.loop-s.invariant.sized;
  filed = filed_more c.args.body.now c.loop-s.s-index c.args.r _ (lists_of c.args.lists.now)
      (lists_of c.loop-s.lists) (lists_of c.file.new.lists) (omega arith) refl
      c.loop-s.invariant.filed c.in_ok-file.ensures.filed;
}
