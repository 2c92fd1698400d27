use Rattle.std.proofs.Common.{ℕ, ◌≡◌, List, length, Option, sym, ap, ◌∙◌, subst, arith}
use Rattle.std.specs.Vec.{with_items}
use Rattle.ybitsets.specs.Packed.{PackedRows, unpack, IsPushed, IsWritten}
use Rattle.ybitsets.proofs.PackedSteps.{pushed, refill_same}
use Rattle.ybitsets.proofs.packed.Packed.push.Goals as goal

pub returns : goal.returns
returns g c =
    let T = g.row.T.Denot in
    let I = c.self.inside in
    let row = c.args.row.now in
    let d = c.displacement_for-d.result in
    let ds = I.displacements.items in
    let number : c.len-n.result ≡ length ds = c.len-n.ensures ∙ I.displacements.ok.0 in
    let by_cells : IsWritten (length row) c.grow.new.cells.items c.write.new.cells
    c.deref_mut-2.result.now c.write.new.owners c.len-n.result d row =
    subst (λ (x : List (Option T)). IsWritten (length row) x c.write.new.cells
    c.deref_mut-2.result.now c.write.new.owners c.len-n.result d row) c.deref_mut.ensures.value
    c.write.ensures in
    let by_owners : IsWritten (length row) c.grow.new.cells.items c.write.new.cells
    c.grow.new.owners.items c.write.new.owners c.len-n.result d row =
    subst (λ o. IsWritten (length row) c.grow.new.cells.items c.write.new.cells o c.write.new.owners
    c.len-n.result d row) c.deref_mut-2.ensures.value by_cells in
    let written : IsWritten (length row) c.grow.new.cells.items c.write.new.cells
    c.grow.new.owners.items c.write.new.owners (length ds) d row =
    subst (λ n. IsWritten (length row) c.grow.new.cells.items c.write.new.cells
    c.grow.new.owners.items c.write.new.owners n d row) number by_owners in
    let wide : length row ≡ I.width = c.requires ∙ ap (λ (p : PackedRows T). p.width)
    (sym c.self.view_is) in
    let old_cells = c.grow.new.cells in
    let old_owners = c.grow.new.owners in
    let cells = c.write.new.cells in
    let owners = c.write.new.owners in
    let cells_len : length cells ≡ old_cells.len =
    (let a = c.write.auto.cells in let b = ap length c.deref_mut.ensures.value in
    let k = old_cells.ok.0 in omega (arith, a, b, k)) in
    let owners_len : length owners ≡ old_owners.len = (let a = c.write.auto.owners in
    let b = ap length c.deref_mut-2.ensures.value in let k = old_owners.ok.0 in
    omega (arith, a, b, k)) in
    let cells_are = refill_same old_cells.len cells old_cells.items cells_len in
    let owners_are = refill_same old_owners.len owners old_owners.items owners_len in
    let first : PackedRows T =
    record { width = I.width; rows = unpack I.cells.items I.owners.items ds I.width } in
    let at : List (Option T) → List ℕ → PackedRows T = λ (x : List (Option T)) (o : List ℕ).
    record { width = I.width; rows = unpack x o c.push.new.self.items I.width } in
    subst (λ (p : PackedRows T). IsPushed p (at (with_items old_cells cells).items
    (with_items old_owners owners).items) row) c.self.view_is
    (subst (λ (x : List (Option T)). IsPushed first (at x (with_items old_owners owners).items) row)
    (sym cells_are)
    (subst (λ (o : List ℕ). IsPushed first (at cells o) row) (sym owners_are)
    (pushed I.cells.items c.grow.new.cells.items c.write.new.cells I.owners.items
    c.grow.new.owners.items c.write.new.owners ds c.push.new.self.items I.width d row
    c.grow.ensures.same written c.in_ok-push.ensures.items wide)))
