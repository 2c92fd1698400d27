use Rattle.std.proofs.Common.{◌≡◌, ◌∷◌, ◌++◌, map, take}
use Rattle.ybitsets.specs.declared.order.Turn.TheVariants.{Enter, Leave}
use Rattle.ybitsets.proofs.order.enter.Given as goal

abbrev pub invariant-loop-to : goal.invariant-loop-to
invariant-loop-to l = l.turns.items ≡ l.fn.turns.items ++ Leave l.p ∷ map Enter
    (take l.to-index l.to-items)
