use Rattle.std.proofs.Common.{is_some}
use Rattle.ygenerate.proofs.Running.{Says-flushed}
use Rattle.ygenerate.proofs.message.put_help.Goals as goal

pub returns : goal.returns
returns g c = (
  c.as_bytes.result.now,
  Says-flushed g.W.Write.contents c.args.writer.now c.put.new.link c.flush.new.self
      (is_some c.put.result) c.flush.result c.as_bytes.result.now c.put.ensures
      c.flush.ensures.bytes c.flush.ensures.failed,
)
