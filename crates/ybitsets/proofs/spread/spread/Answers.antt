use Rattle.std.proofs.Common.{◌<◌, ◌∙◌, subst, sym}
use Rattle.std.specs.List.{Contains}
use Rattle.ybitsets.proofs.Spreading.{spreading_none, spreading_give, spreading_end, spread_nearer}
use Rattle.ybitsets.proofs.spread.spread.Goals as goal

pub loop-p-init : goal.loop-p-init
loop-p-init c = spreading_none c.args.links.now c.args.rows.now c.in_ok-waiting.waiting
    (c.in_ok-waiting.ensures.sized ∙ c.height-count.ensures) (λ p h. c.in_ok-waiting.ensures.every p
    (subst (λ xs. Contains xs p) (sym c.deref.ensures.value)
    (c.in_ok-order.ensures.every p (subst (λ n. p < n) (sym c.height-count.ensures) h))))

pub loop-p-preserved : goal.loop-p-preserved
loop-p-preserved c = spreading_give c.args.links.now c.args.rows.now c.loop-p.rows c.give.new.rows
    c.loop-p.waiting c.take.new.self c.give.new.waiting c.in-Some.p c.loop-p.invariant
    c.in-Some.ensures.1 c.in_ok-give.ensures

pub loop-p-smaller : goal.loop-p-smaller
loop-p-smaller c = spread_nearer c.args.links.now c.loop-p.rows c.give.new.rows c.loop-p.waiting
    c.take.new.self c.give.new.waiting c.in-Some.p c.in-Some.ensures.0 c.in-Some.ensures.1
    c.in_ok-give.ensures

pub returns-clause-exact : goal.returns-clause-exact
returns-clause-exact c = spreading_end c.args.links.now c.args.rows.now c.loop-p.rows
    c.loop-p.waiting c.loop-p.invariant c.in_default.ensures
