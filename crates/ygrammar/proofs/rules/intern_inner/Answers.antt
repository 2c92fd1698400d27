use Rattle.std.proofs.Common.{arith}
use Rattle.ygrammar.proofs.InnerSteps.{action_room}
use Rattle.ygrammar.proofs.rules.intern_inner.Goals as goal

pub overflow_add-next : goal.overflow_add-next
overflow_add-next c =
    let l = action_room c.args.items.now c.loop-item.item-index _ _ _ _ _ c.in-Action.is
    (omega arith) c.loop-item.invariant.next c.requires in
    omega (arith, l)
