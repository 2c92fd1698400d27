use Rattle.std.proofs.Common.{◌<◌, [], sym, subst, length, get_or, arith}
use Rattle.std.specs.List.{All}
use Rattle.ybitsets.proofs.LinkSteps.{links_below}
use Rattle.ybitsets.proofs.OrderSteps.{turns_enter, turns_over}
use Rattle.ybitsets.proofs.order.order_of.Goals as goal

pub walk-requires-clause-turns : goal.walk-requires-clause-turns
walk-requires-clause-turns c =
    let i = c.loop-p.invariant in
    let p = c.loop-p.p in
    let h : p < length c.loop-p.seen = subst (λ n. p < n) (sym i.sized) c.loop-p-test.true in
    let l = subst (λ k. All (λ j. j < k) (get_or c.args.links.now p [])) (sym i.sized)
    (links_below c.args.count c.args.links.now p c.requires) in
    turns_enter c.loop-p.seen c.mark.new.self c.loop-p.turns.items c.enter.new.turns.items p
    (get_or c.args.links.now p []) c.loop-p.order.items h l c.mark.ensures.set
    c.in_ok-enter.ensures i.turns

pub returns-clause-every : goal.returns-clause-every
returns-clause-every c = λ p h. turns_over c.loop-p.seen c.loop-p.turns.items c.loop-p.order.items p
    c.loop-p.invariant.none c.loop-p.invariant.turns (c.loop-p.invariant.seen p (omega arith))
