use Rattle.std.proofs.Common.{◌≡◌, ◌≢◌, ◌+◌, ◌++◌, [], ◌∷◌, ◌∙◌, get_or, take, suc, sym, ap, subst}
use Rattle.std.proofs.Common.{arith}
use Rattle.std.proofs.Math.Seq.{take-suc}
use Rattle.ylalr.specs.declared.items.Item.{Item}
use Rattle.ylalr.specs.ItemRows.{TakesOne}
use Rattle.ylalr.proofs.ItemRowSteps.{Filling, filling_push}
use Rattle.ylalr.proofs.item_rows.rows_of.Goals as goal
use Rattle.ylalr.proofs.item_rows.rows_of.Goals.{then-row-end, else-row-end}

pub loop-k-preserved : goal.loop-k-preserved
loop-k-preserved c =
    let g = c.args.grammar.now.bare in
    let xs = c.args.items.now in
    let k = c.loop-k.k in
    let x : Item = get_or xs k (record { rule = 0; dot = 0 }) in
    let rows = c.loop-k.rows in
    let p = c.row_behind-row.result in
    let ek : take (k + 1) xs ≡ take k xs ++ x ∷ [] = (let e : k + 1 ≡ suc k = omega arith in
    ap (λ j. take j xs) e ∙ take-suc xs k (record { rule = 0; dot = 0 })
    c.loop-k-test.true) in
    let same : p ≡ c.loop-k.end → c.if-row-end.end ≡ c.loop-k.end + 1 =
    λ e. elim c.if-row-end.branch [
      | then-row-end w ↦ w.end-is
      | else-row-end w ↦ absurd
          (w.if-row-end.false e)
    ] in
    let other : p ≢ c.loop-k.end → c.if-row-end.end ≡ c.loop-k.end =
    λ e. elim c.if-row-end.branch [
      | then-row-end w ↦ absurd (e w.if-row-end.true)
      | else-row-end w ↦ w.end-is
    ] in
    let takes : TakesOne g (take k xs) rows x c.loop-k.end c.loop-k.lefts c.row_behind-row.new.lefts
    p = subst (λ (l : _). TakesOne g (take k xs) l x c.loop-k.end c.loop-k.lefts
    c.row_behind-row.new.lefts p) c.as_slice.ensures c.row_behind-row.ensures in
    subst (λ ys. Filling g ys c.push.new.self c.args.first c.if-row-end.end
    c.row_behind-row.new.lefts) (sym ek)
    (subst (λ zs. Filling g (take k xs ++ x ∷ []) zs c.args.first c.if-row-end.end
    c.row_behind-row.new.lefts) (sym c.in_ok-push.ensures)
    (filling_push g (take k xs) rows c.args.first c.loop-k.end c.if-row-end.end p x
    c.loop-k.lefts c.row_behind-row.new.lefts c.loop-k.invariant
    (c.symbols-well_formed.ensures.well_formed.left x.rule
    (c.requires.range k (record { rule = 0; dot = 0 }) c.loop-k-test.true).0)
    takes same other))
