use Rattle.std.proofs.Common.{◌≡◌, ◌<◌, ◌+◌, List, length, Option, sym, ap, ◌∙◌, arith, slice_index}
use Rattle.std.proofs.lemmas.List.{get_or_read}
use Rattle.ybitsets.specs.Packed.{PackedRows, entry_of, held_at}
use Rattle.ybitsets.proofs.PackedSteps.{entry_is, entry_past, rows_count}
use Rattle.ybitsets.proofs.packed.Packed.get.Given.{Over}
use Rattle.ybitsets.proofs.packed.Packed.get.Goals.{After-index}
use Rattle.ybitsets.proofs.packed.Packed.get.Goals as goal

-- the number of the row is that of a displacement
within : (g : Over) (c : After-index g) → c.args.q < length c.self.inside.displacements.items
within g c =
    let I = c.self.inside in
    let count = rows_count I.cells.items I.owners.items I.displacements.items I.width in
    let seen = ap (λ (p : PackedRows g.row.T.Denot). length p.rows) c.self.view_is in
    omega (arith, count, seen, c.requires)

-- where the row begins
begins : (g : Over) (c : After-index g) →
    c.index.result.now ≡ slice_index c.self.inside.displacements.items c.args.q
begins g c = get_or_read c.self.inside.displacements.items c.args.q c.index.result.now
    (within g c) c.index.ensures 0

pub returns-then-self-t : goal.returns-then-self-t
returns-then-self-t g c =
    let T = g.row.T.Denot in
    let I = c.self.inside in
    let count = rows_count I.cells.items I.owners.items I.displacements.items I.width in
    let seen = ap (λ (p : PackedRows T). length p.rows) c.self.view_is in
    let q : c.args.q < length I.displacements.items = omega (arith, count, seen, c.requires) in
    sym (entry_past I.cells.items I.owners.items I.displacements.items I.width c.args.q c.args.t q
    c.if-self-t.true) ∙ ap (λ (p : PackedRows T). entry_of p.rows c.args.q c.args.t)
    c.self.view_is

pub index-requires : goal.index-requires
index-requires g c =
    let T = g.row.T.Denot in
    let I = c.self.inside in
    let count = rows_count I.cells.items I.owners.items I.displacements.items I.width in
    let seen = ap (λ (p : PackedRows T). length p.rows) c.self.view_is in
    omega (arith, count, seen, c.requires, I.displacements.ok.0)

pub overflow_add-index : goal.overflow_add-index
overflow_add-index g c =
    let here = (goal.at.overflow_add-index g c).After-index in
    let at = begins g here in
    let near = c.self.invariant.near c.args.q (within g here) in
    let narrow = c.self.invariant.narrow in
    omega (arith, at, near, narrow, c.if-self-t.false)

pub held-requires-clause-small : goal.held-requires-clause-small
held-requires-clause-small g c =
    let T = g.row.T.Denot in
    let I = c.self.inside in
    let count = rows_count I.cells.items I.owners.items I.displacements.items I.width in
    let seen = ap (λ (p : PackedRows T). length p.rows) c.self.view_is in
    omega (
      arith,
      count,
      seen,
      c.requires,
      I.displacements.ok.0,
      I.displacements.ok.1,
      I.displacements.small,
    )

pub returns : goal.returns
returns g c =
    let here = (goal.at.returns g c).After-index in
    let T = g.row.T.Denot in
    let I = c.self.inside in
    c.held.ensures ∙ ap (λ (cells : List (Option T)). held_at cells c.deref-2.result.now c.args.q
    (c.index.result.now + c.args.t)) c.deref.ensures.value
    ∙ ap (λ owners. held_at I.cells.items owners c.args.q (c.index.result.now + c.args.t))
    c.deref-2.ensures.value ∙ ap (λ n. held_at I.cells.items I.owners.items c.args.q
    (n + c.args.t)) (begins g here)
    ∙ sym (entry_is I.cells.items I.owners.items I.displacements.items I.width c.args.q c.args.t
    (within g here) c.if-self-t.false) ∙ ap (λ (p : PackedRows T). entry_of p.rows c.args.q
    c.args.t) c.self.view_is
