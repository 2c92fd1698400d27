use Rattle.std.proofs.Common.{true, take}
use Rattle.ylink.specs.Sends.{Sends}
use Rattle.ytables.specs.Text.{spaced_names}
use Rattle.ysession.specs.Session.{machine_of, history_of}
use Rattle.ymachine.specs.Machine.{symbols}
use Rattle.ystepper.proofs.reply.put_stack.Given as goal

-- the names so far were sent
abbrev pub invariant-loop-index : goal.invariant-loop-index
invariant-loop-index g l = Sends g.W.Write.contents l.initial.writer l.writer true
    (spaced_names (machine_of l.session).name
    (take l.index (symbols (history_of l.session).now.stack)))
