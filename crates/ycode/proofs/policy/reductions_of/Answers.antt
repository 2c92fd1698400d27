use Rattle.std.proofs.Common.{ℕ, ◌∙◌, ap}
use Rattle.ytables.specs.Tables.{action_at}
use Rattle.ycode.specs.States.{rule_in}
use Rattle.ycode.proofs.ListSteps.{made_more}
use Rattle.ycode.proofs.policy.reductions_of.Goals as goal

pub loop-t-preserved : goal.loop-t-preserved
loop-t-preserved c = made_more (λ (t : ℕ). rule_in (action_at c.args.tables.now c.args.q t))
    c.loop-t.rules.items c.push.new.self.items c.loop-t.t c.rule_in.result
    c.in_ok-push.ensures.items c.loop-t.invariant
    (c.rule_in.ensures ∙ ap rule_in c.action.ensures.value)
