use Rattle.ycode.proofs.SlotSteps.{marked_more}
use Rattle.ycode.proofs.slots.mark_all.Goals as goal

pub loop-t-preserved : goal.loop-t-preserved
loop-t-preserved c = marked_more c.args.columns.now c.args.d c.loop-t.t-index
    c.args.words.now.items c.loop-t.words.items c.mark.new.words.items c.loop-t-test.true
    c.in_ok-mark.ensures c.loop-t.invariant
