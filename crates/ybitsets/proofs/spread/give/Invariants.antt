use Rattle.std.proofs.Common.{take}
use Rattle.ybitsets.specs.Spread.{Gives}
use Rattle.ybitsets.proofs.spread.give.Given as goal

abbrev pub invariant-loop-to : goal.invariant-loop-to
invariant-loop-to l = Gives (take l.to-index l.to-items) l.p l.initial.rows l.initial.waiting l.rows
    l.waiting
