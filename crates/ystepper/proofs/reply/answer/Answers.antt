use Rattle.std.proofs.Common.{Bool, true, ap, ◌∙◌, if◌then◌else◌}
use Rattle.ylink.specs.Link.{has_failed}
use Rattle.ysession.specs.Session.{machine_of, history_of}
use Rattle.ystepper.specs.Command.{command_view}
use Rattle.ystepper.proofs.Replying.{answered-unflushed}
use Rattle.ystepper.proofs.reply.answer.Goals as goal

pub returns-else-flush-clause-answers : goal.returns-else-flush-clause-answers
returns-else-flush-clause-answers g c =
    answered-unflushed g.W.Write.contents c.args.writer.now c.reply.new.writer c.flush.new.self
    (machine_of c.args.session.now) (history_of c.args.session.now)
    (history_of c.reply.new.session) (command_view c.args.command) c.in_ok-reply.ensures.answers
    c.flush.ensures.bytes
    (c.flush.ensures.failed ∙ ap (λ (b : Bool). if b then has_failed c.reply.new.writer else true)
    c.if-flush.false)
