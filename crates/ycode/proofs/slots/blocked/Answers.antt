use Rattle.ycode.proofs.SlotSteps.{blocked_more}
use Rattle.ycode.proofs.slots.blocked.Goals as goal

pub returns-then-blocked-clause-bits : goal.returns-then-blocked-clause-bits
returns-then-blocked-clause-bits c = blocked_more c.args.words.now c.args.columns.now c.args.d
    c.loop-t.t-index c.loop-t.blocked c.window-blocked.result c.loop-t-test.true c.loop-t.invariant
    c.window-blocked.ensures

pub loop-t-preserved : goal.loop-t-preserved
loop-t-preserved c = blocked_more c.args.words.now c.args.columns.now c.args.d c.loop-t.t-index
    c.loop-t.blocked c.window-blocked.result c.loop-t-test.true c.loop-t.invariant
    c.window-blocked.ensures
