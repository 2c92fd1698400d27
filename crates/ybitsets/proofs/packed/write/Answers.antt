use Rattle.std.proofs.Common.{◌≡◌, ◌+◌, ◌<◌, ◌≤◌, true, false, Option, None, List, is_some, length}
use Rattle.std.proofs.Common.{get_or, set, sym, ap, ◌∙◌, subst, arith}
use Rattle.std.proofs.lemmas.List.{get_or_read}
use Rattle.ybitsets.specs.Packed.{IsWritten, FitsFrom}
use Rattle.ybitsets.proofs.PackedSteps.{written_more, written_skip, fits_more, fits_skip}
use Rattle.ybitsets.proofs.packed.write.Goals as goal
use Rattle.ybitsets.proofs.packed.write.Goals.{then-is_some, else-is_some}

pub loop-t-preserved : goal.loop-t-preserved
loop-t-preserved g c =
    let T = g.row.T.Denot in
    let row = c.args.row.now in
    let t = c.loop-t.t in
    let d = c.args.d in
    let n = c.args.n in
    let inv = c.loop-t.invariant in
    let at : c.index-row-t.result ≡ get_or row t None = get_or_read row t c.index-row-t.result
    c.loop-t-test.true c.index-row-t.is None in
    let some : c.is_some.result ≡ is_some (get_or row t None) = c.is_some.ensures ∙ ap is_some at in
    elim c.if-is_some.branch [
      | then-is_some w ↦
          (let here : w.index-row-t-then-is_some.result ≡ get_or row t None =
          get_or_read row t w.index-row-t-then-is_some.result c.loop-t-test.true
          w.index-row-t-then-is_some.is None in
          let cells : c.if-is_some.cells ≡ set c.loop-t.cells (d + t) (get_or row t None) =
          w.cells-is ∙ ap (set c.loop-t.cells (d + t)) here in
          let filled : is_some (get_or row t None) ≡ true = sym some ∙ w.if-is_some.true in
          let inside : d + t < length c.loop-t.owners = omega arith in
          let room : length c.loop-t.owners ≤ length c.loop-t.cells = omega arith in
          let free = inv.fits t (omega arith) c.loop-t-test.true filled in
          record {
            written = subst (λ (x : List (Option T)). IsWritten (t + 1) c.args.cells.now x
                c.args.owners.now c.if-is_some.owners n d row) (sym cells)
                (subst (λ o. IsWritten (t + 1) c.args.cells.now
                (set c.loop-t.cells (d + t) (get_or row t None)) c.args.owners.now o n d row)
                (sym w.owners-is)
                (written_more t c.args.cells.now c.loop-t.cells c.args.owners.now c.loop-t.owners n
                d row inv.written inside room free));
            fits = subst (λ o. FitsFrom (t + 1) o row d) (sym w.owners-is)
                (fits_more t c.loop-t.owners row d (n + 1) inv.fits);
          })
      | else-is_some w ↦
          (let free : is_some (get_or row t None) ≡ false = sym some ∙ w.if-is_some.false in
          record {
            written = subst (λ (x : List (Option T)). IsWritten (t + 1) c.args.cells.now x
                c.args.owners.now c.if-is_some.owners n d row) (sym w.cells-is)
                (subst (λ o. IsWritten (t + 1) c.args.cells.now c.loop-t.cells c.args.owners.now o n
                d row) (sym w.owners-is)
                (written_skip t c.args.cells.now c.loop-t.cells c.args.owners.now c.loop-t.owners n
                d row inv.written free));
            fits = subst (λ o. FitsFrom (t + 1) o row d) (sym w.owners-is)
                (fits_skip t c.loop-t.owners row d inv.fits);
          })
    ]
