use Rattle.std.proofs.Common.{ap, is_some}
use Rattle.ylink.proofs.Sent.{Sends-part}
use Rattle.ylink.proofs.put.put_all.Goals as goal

pub returns-in_err-put : goal.returns-in_err-put
returns-in_err-put g c =
    Sends-part g.W.Write.contents (λ piece. piece.now) c.args.link.now c.loop-piece.link
    c.put.new.link (is_some c.from_residual.result) c.args.pieces.now c.loop-piece.piece-index _
    (ap is_some c.from_residual.ensures) c.loop-piece-test.true c.loop-piece.invariant
    c.in_err-put.ensures
