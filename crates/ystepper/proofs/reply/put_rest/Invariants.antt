use Rattle.std.proofs.Common.{true, take, map}
use Rattle.ylink.specs.Sends.{Sends}
use Rattle.ytables.specs.Text.{spaced_names}
use Rattle.ysession.specs.Session.{machine_of, history_of}
use Rattle.ystepper.proofs.reply.put_rest.Given as goal

-- the names so far were sent
abbrev pub invariant-loop-index : goal.invariant-loop-index
invariant-loop-index g l =
    Sends g.W.Write.contents l.initial.writer l.writer true
    (spaced_names (machine_of l.session).name (take l.index
    (map (λ token. token.0) (history_of l.session).now.rest)))
