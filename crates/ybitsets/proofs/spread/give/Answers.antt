use Rattle.std.proofs.Common.{◌≡◌, ◌<◌, ◌+◌, ◌++◌, [], ◌∷◌, ◌∙◌, get_or, take, suc, sym, ap, subst}
use Rattle.std.proofs.Common.{arith, List, Bool, length}
use Rattle.std.proofs.Math.Seq.{take-suc}
use Rattle.ybitsets.specs.Spread.{Gives}
use Rattle.ybitsets.proofs.Spreading.{gives_same, gives_grew, linked_at, take_all}
use Rattle.ybitsets.proofs.spread.give.Goals as goal
use Rattle.ybitsets.proofs.spread.give.Goals.{then-add_row+in_ok-put, else-add_row}

pub add_row-requires-clause-to_in : goal.add_row-requires-clause-to_in
add_row-requires-clause-to_in c =
    let n = c.args.rows.now.height in
    let t = get_or c.of-to-items.result.now c.loop-to.to-index 0 in
    subst (λ h. t < h) (sym c.loop-to.invariant.sized.rows)
    (linked_at n c.args.links.now c.args.p c.loop-to.to-index c.of-to-items.result.now
    c.requires.links c.of-to-items.ensures c.loop-to-test.true)

pub put-requires : goal.put-requires
put-requires c =
    let n = c.args.rows.now.height in
    let t = get_or c.of-to-items.result.now c.loop-to.to-index 0 in
    subst (λ h. t < h) (sym (c.loop-to.invariant.marks ∙ c.requires.marks))
    (linked_at n c.args.links.now c.args.p c.loop-to.to-index c.of-to-items.result.now
    c.requires.links c.of-to-items.ensures c.loop-to-test.true)

pub loop-to-preserved : goal.loop-to-preserved
loop-to-preserved c =
    let xs = c.of-to-items.result.now in
    let k = c.loop-to.to-index in
    let t = get_or xs k 0 in
    let i = c.loop-to.invariant in
    let a = c.add_row.ensures in
    let m = c.args.rows.now in
    let v = c.args.waiting.now in
    let inside : t < length c.loop-to.waiting = subst (λ h. t < h)
    (sym (c.loop-to.invariant.marks ∙ c.requires.marks))
    (linked_at c.args.rows.now.height c.args.links.now c.args.p k xs c.requires.links
    c.of-to-items.ensures c.loop-to-test.true) in
    let ek : take (k + 1) xs ≡ take k xs ++ t ∷ [] = (let e : k + 1 ≡ suc k = omega arith in
    ap (λ j. take j xs) e ∙ take-suc xs k 0 c.loop-to-test.true) in
    subst (λ ys. Gives ys c.args.p m v c.add_row.new.self c.if-add_row.waiting) (sym ek)
    (elim c.if-add_row.branch [
      | then-add_row+in_ok-put w ↦ subst (λ (y : List Bool). Gives (take k xs ++ t ∷ []) c.args.p m v
          c.add_row.new.self y) (sym w.waiting-is)
          (gives_grew (take k xs) c.args.p t m c.loop-to.rows c.add_row.new.self v c.loop-to.waiting
          w.put.new.self i a.adds (record { rows = a.grown.rows; columns = a.grown.columns })
          (a.grown.fewer_if w.if-add_row.true) w.in_ok-put.ensures inside)
      | else-add_row w ↦ gives_same (take k xs) c.args.p t m c.loop-to.rows c.add_row.new.self v
          c.loop-to.waiting c.if-add_row.waiting i a.adds (a.grown.unchanged w.if-add_row.false)
          w.waiting-is
    ])

pub returns : goal.returns
returns c =
    let xs = c.of-to-items.result.now in
    let e : take c.loop-to.to-index xs ≡ xs = take_all xs c.loop-to.to-index c.loop-to-test.false in
    subst (λ ys. Gives ys c.args.p c.args.rows.now c.args.waiting.now c.loop-to.rows
    c.loop-to.waiting) (e ∙ c.of-to-items.ensures) c.loop-to.invariant
