use Rattle.std.proofs.Common.{◌+◌, ◌*◌, length}
use Rattle.ybitsets.specs.Rows.{room}
use Rattle.ybitsets.specs.Waiting.{waiting_in}
use Rattle.ybitsets.proofs.Spreading.{Spreading}
use Rattle.ybitsets.proofs.spread.spread.Given as goal

abbrev pub invariant-loop-p : goal.invariant-loop-p
invariant-loop-p l = Spreading l.links l.initial.rows l.rows l.waiting

abbrev pub decreases-loop-p : goal.decreases-loop-p
decreases-loop-p l = room l.rows * (length l.waiting + 1) + waiting_in l.waiting
