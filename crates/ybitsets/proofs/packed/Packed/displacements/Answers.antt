use Rattle.std.proofs.Common.{length, sym, ap, ◌∙◌}
use Rattle.ybitsets.specs.Packed.{PackedRows}
use Rattle.ybitsets.proofs.PackedSteps.{rows_count}
use Rattle.ybitsets.proofs.packed.Packed.displacements.Goals as goal

pub returns : goal.returns
returns g c =
    let T = g.row.T.Denot in
    let I = c.self.inside in
    ap length c.as_slice.ensures.value
    ∙ sym (rows_count I.cells.items I.owners.items I.displacements.items I.width)
    ∙ ap (λ (p : PackedRows T). length p.rows) c.self.view_is
