use Rattle.std.proofs.Common.{ℕ, ◌∙◌, ap}
use Rattle.ytables.specs.Cell.{is_reduce}
use Rattle.ycode.specs.Policies.{act_at}
use Rattle.ycode.proofs.ListSteps.{made_more}
use Rattle.ycode.proofs.cells.members_of.Goals as goal

pub loop-t-preserved : goal.loop-t-preserved
loop-t-preserved c = made_more
    (λ (t : ℕ). is_reduce c.args.usual (act_at c.args.policy c.args.tables.now c.args.q t))
    c.loop-t.members.items c.push.new.self.items c.loop-t.t c.reduces_by.result
    c.in_ok-push.ensures.items c.loop-t.invariant
    (c.reduces_by.ensures ∙ ap (is_reduce c.args.usual) c.act_at.ensures)
