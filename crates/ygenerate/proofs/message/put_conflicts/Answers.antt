use Rattle.std.proofs.Common.{◌≡◌, ◌==◌, ◌&&◌, ◌∙◌, sym, false}
use Rattle.ygenerate.proofs.message.put_conflicts.Goals as goal

pub returns : goal.returns
returns g c =
    let off : (c.args.counts.shift_reduce == 0 && c.args.counts.reduce_reduce == 0) ≡ false =
    sym c.is_free.ensures ∙ c.if-is_free.false in
    rw off c.put_pieces.ensures
