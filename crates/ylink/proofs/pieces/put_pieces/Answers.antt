use Rattle.std.proofs.Common.{ap, is_some}
use Rattle.ylink.specs.Pieces.{text_of}
use Rattle.ylink.proofs.Sent.{Sends-part}
use Rattle.ylink.proofs.pieces.put_pieces.Goals as goal

pub returns-in_err-put_piece : goal.returns-in_err-put_piece
returns-in_err-put_piece g c =
    Sends-part g.W.Write.contents text_of c.args.link.now c.loop-piece.link c.put_piece.new.link
    (is_some c.from_residual.result) c.args.pieces.now c.loop-piece.piece-index _
    (ap is_some c.from_residual.ensures) c.loop-piece-test.true c.loop-piece.invariant
    c.in_err-put_piece.ensures
