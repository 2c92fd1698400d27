use Rattle.std.proofs.Common.{arith}
use Rattle.ylink.proofs.Sent.{Sends-none, Sends-stop, Sends-then}
use Rattle.ylink.proofs.lines.put_list.Goals as goal

pub returns-in_err-put_pieces : goal.returns-in_err-put_pieces
returns-in_err-put_pieces g c = λ u n e.
    Sends-none g.W.Write.contents _ _ _ _ c.from_residual.ensures
    (Sends-stop g.W.Write.contents _ _ _ _ c.in_err-put_pieces.ensures)

pub returns : goal.returns
returns g c = λ u n e.
    Sends-then g.W.Write.contents _ _ _ _ _ _ c.in_ok-put_pieces.ensures
    (c.put_lines.ensures u n (omega arith))
