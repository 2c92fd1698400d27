use Rattle.std.proofs.Common.{ℕ, ◌≡◌, ◌+◌, ◌≤◌, ◌∙◌, List, Bool, true, false, length, get_or}
use Rattle.std.proofs.Common.{set, sym, ap, subst, refl, arith, max}
use Rattle.std.proofs.Math.ListN.{length-set}
use Rattle.std.specs.Vec.{with_items}
use Rattle.ybitsets.proofs.PackedSteps.{refill_same}
use Rattle.ycode.specs.Packing.{PackingValue, IsPacking, IsPut, FitsAt, IsGrown, IsWritten}
use Rattle.ycode.specs.Packing.{IsEven, can_begin, columns_in, with_row}
use Rattle.ycode.proofs.PackingSteps.{grown_packing, written_packing, written, exact}
use Rattle.ycode.proofs.PlaceSteps.{fits_there, begins_there}
use Rattle.ycode.proofs.packing.Packing.put.Goals as goal

pub invariant_of-self : goal.invariant_of-self
invariant_of-self c =
    let I = c.self.inside in
    let C = c.grow.new.checks in
    let V = c.grow.new.values in
    let B = c.grow.new.begun in
    let wide : length c.args.row.now ≡ I.width = c.requires.row ∙
    ap (λ (p : PackingValue). p.width) (sym c.self.view_is) in
    grown_packing I.width I.checks.items C.items I.values.items V.items I.begun.items B.items
    c.self.invariant
    (subst (λ n. IsGrown n I.checks.items C.items I.values.items V.items I.begun.items B.items) wide
    c.grow.ensures.grown)

pub invariant_of-self-2 : goal.invariant_of-self-2
invariant_of-self-2 c =
    let I = c.self.inside in
    let row = c.args.row.now in
    let d = c.args.d in
    let C = c.grow.new.checks in
    let V = c.grow.new.values in
    let B = c.grow.new.begun in
    let c2 = c.write.new.checks in
    let v2 = c.write.new.values in
    let wide : length row ≡ I.width = c.requires.row ∙ ap (λ (p : PackingValue). p.width)
    (sym c.self.view_is) in
    let g : IsGrown I.width I.checks.items C.items I.values.items V.items I.begun.items B.items =
    subst (λ n. IsGrown n I.checks.items C.items I.values.items V.items I.begun.items B.items) wide
    c.grow.ensures.grown in
    let free : can_begin (record {
      width = I.width;
      checks = I.checks.items;
      values = I.values.items;
      begun = I.begun.items;
    }) (columns_in row) d ≡ true = subst (λ (p : PackingValue). can_begin p (columns_in row) d ≡ true)
    (sym c.self.view_is) c.requires.free in
    let fit : FitsAt I.checks.items row d = fits_there (record {
      width = I.width;
      checks = I.checks.items;
      values = I.values.items;
      begun = I.begun.items;
    }) row d wide free in
    let fresh : get_or I.begun.items d false ≡ false = begins_there (record {
      width = I.width;
      checks = I.checks.items;
      values = I.values.items;
      begun = I.begun.items;
    }) (columns_in row) d free in
    let w1 : IsWritten (length row) d row C.items c2 c.deref_mut-2.result.now v2 =
    subst (λ x. IsWritten (length row) d row x c2 c.deref_mut-2.result.now v2)
    c.deref_mut.ensures.value c.write.ensures.written in
    let w2 : IsWritten (length row) d row C.items c2 V.items v2 =
    subst (λ x. IsWritten (length row) d row C.items c2 x v2) c.deref_mut-2.ensures.value w1 in
    let w3 : IsWritten I.width d row C.items c2 V.items v2 =
    subst (λ n. IsWritten n d row C.items c2 V.items v2) wide w2 in
    let lc : length c2 ≡ length C.items = (let a = c.write.auto.checks in
    let b = ap length c.deref_mut.ensures.value in omega (arith, a, b)) in
    let lv : length v2 ≡ length V.items = (let a = c.write.auto.values in
    let b = ap length c.deref_mut-2.ensures.value in omega (arith, a, b)) in
    let checks_are = refill_same C.len c2 C.items (let k = C.ok.0 in omega (arith, k, lc)) in
    let values_are = refill_same V.len v2 V.items (let k = V.ok.0 in omega (arith, k, lv)) in
    let room : d + I.width ≤ length C.items = (let e = c.in_ok-grow.ensures.end in
    let k = C.ok.0 in omega (arith, e, k, wide)) in
    let b2 : List Bool = set B.items d true in
    let p : IsPacking I.width c2 v2 b2 = written_packing I.width I.checks.items C.items c2
    I.values.items V.items v2 I.begun.items B.items b2 d row c.self.invariant g room wide fit fresh
    w3
    lc lv refl in
    rw (checks_are, values_are) p

pub returns-clause-put : goal.returns-clause-put
returns-clause-put c =
    let I = c.self.inside in
    let row = c.args.row.now in
    let d = c.args.d in
    let C = c.grow.new.checks in
    let V = c.grow.new.values in
    let B = c.grow.new.begun in
    let c2 = c.write.new.checks in
    let v2 = c.write.new.values in
    let wide : length row ≡ I.width = c.requires.row ∙ ap (λ (p : PackingValue). p.width)
    (sym c.self.view_is) in
    let g : IsGrown I.width I.checks.items C.items I.values.items V.items I.begun.items B.items =
    subst (λ n. IsGrown n I.checks.items C.items I.values.items V.items I.begun.items B.items) wide
    c.grow.ensures.grown in
    let free : can_begin (record {
      width = I.width;
      checks = I.checks.items;
      values = I.values.items;
      begun = I.begun.items;
    }) (columns_in row) d ≡ true = subst (λ (p : PackingValue). can_begin p (columns_in row) d ≡ true)
    (sym c.self.view_is) c.requires.free in
    let fit : FitsAt I.checks.items row d = fits_there (record {
      width = I.width;
      checks = I.checks.items;
      values = I.values.items;
      begun = I.begun.items;
    }) row d wide free in
    let fresh : get_or I.begun.items d false ≡ false = begins_there (record {
      width = I.width;
      checks = I.checks.items;
      values = I.values.items;
      begun = I.begun.items;
    }) (columns_in row) d free in
    let w1 : IsWritten (length row) d row C.items c2 c.deref_mut-2.result.now v2 =
    subst (λ x. IsWritten (length row) d row x c2 c.deref_mut-2.result.now v2)
    c.deref_mut.ensures.value c.write.ensures.written in
    let w2 : IsWritten (length row) d row C.items c2 V.items v2 =
    subst (λ x. IsWritten (length row) d row C.items c2 x v2) c.deref_mut-2.ensures.value w1 in
    let w3 : IsWritten I.width d row C.items c2 V.items v2 =
    subst (λ n. IsWritten n d row C.items c2 V.items v2) wide w2 in
    let lc : length c2 ≡ length C.items = (let a = c.write.auto.checks in
    let b = ap length c.deref_mut.ensures.value in omega (arith, a, b)) in
    let lv : length v2 ≡ length V.items = (let a = c.write.auto.values in
    let b = ap length c.deref_mut-2.ensures.value in omega (arith, a, b)) in
    let checks_are = refill_same C.len c2 C.items (let k = C.ok.0 in omega (arith, k, lc)) in
    let values_are = refill_same V.len v2 V.items (let k = V.ok.0 in omega (arith, k, lv)) in
    let room : d + I.width ≤ length C.items = (let e = c.in_ok-grow.ensures.end in
    let k = C.ok.0 in omega (arith, e, k, wide)) in
    let b2 : List Bool = set B.items d true in
    let more : length C.items ≤ length I.checks.items + I.width = (let m = c.grow.ensures.most in
    let k = C.ok.0 in let o = I.checks.ok.0 in let n = c.requires.near in
    let z = ap (λ (p : PackingValue). length p.checks) c.self.view_is in
    omega (arith, m, k, o, n, z, wide)) in
    let even : length I.values.items ≡ length I.checks.items → length v2 ≡ length c2 =
    λ h. (let a = I.values.ok.0 in let b = I.checks.ok.0 in let x = V.ok.0 in let y = C.ok.0 in
    let e = c.in_ok-grow.ensures.even (omega (arith, h, a, b)) in
    omega (arith, e, x, y, lv, lc)) in
    let first : PackingValue = record {
      width = I.width;
      checks = I.checks.items;
      values = I.values.items;
      begun = I.begun.items;
    } in
    let at : List ℕ → List ℕ → PackingValue = λ (x y : List ℕ). record {
      width = I.width;
      checks = x;
      values = y;
      begun = b2;
    } in
    let put : IsPut first (at c2 v2) row d = written I.width I.checks.items C.items c2
    I.values.items V.items v2 I.begun.items B.items b2 d row c.self.invariant g room wide fit fresh
    w3
    lc lv refl more even in
    subst (λ (p : PackingValue). IsPut p (at (with_items C c2).items (with_items V v2).items) row d)
    c.self.view_is
    (subst (λ (x : List ℕ). IsPut first (at x (with_items V v2).items) row d) (sym checks_are)
    (subst (λ (y : List ℕ). IsPut first (at c2 y) row d) (sym values_are) put))

pub returns-clause-exact : goal.returns-clause-exact
returns-clause-exact c = λ h.
    (let I = c.self.inside in
    let row = c.args.row.now in
    let d = c.args.d in
    let C = c.grow.new.checks in
    let V = c.grow.new.values in
    let B = c.grow.new.begun in
    let c2 = c.write.new.checks in
    let v2 = c.write.new.values in
    let wide : length row ≡ I.width = c.requires.row ∙ ap (λ (p : PackingValue). p.width)
    (sym c.self.view_is) in
    let g : IsGrown I.width I.checks.items C.items I.values.items V.items I.begun.items B.items =
    subst (λ n. IsGrown n I.checks.items C.items I.values.items V.items I.begun.items B.items) wide
    c.grow.ensures.grown in
    let free : can_begin (record {
      width = I.width;
      checks = I.checks.items;
      values = I.values.items;
      begun = I.begun.items;
    }) (columns_in row) d ≡ true = subst (λ (p : PackingValue). can_begin p (columns_in row) d ≡ true)
    (sym c.self.view_is) c.requires.free in
    let fit : FitsAt I.checks.items row d = fits_there (record {
      width = I.width;
      checks = I.checks.items;
      values = I.values.items;
      begun = I.begun.items;
    }) row d wide free in
    let fresh : get_or I.begun.items d false ≡ false = begins_there (record {
      width = I.width;
      checks = I.checks.items;
      values = I.values.items;
      begun = I.begun.items;
    }) (columns_in row) d free in
    let w1 : IsWritten (length row) d row C.items c2 c.deref_mut-2.result.now v2 =
    subst (λ x. IsWritten (length row) d row x c2 c.deref_mut-2.result.now v2)
    c.deref_mut.ensures.value c.write.ensures.written in
    let w2 : IsWritten (length row) d row C.items c2 V.items v2 =
    subst (λ x. IsWritten (length row) d row C.items c2 x v2) c.deref_mut-2.ensures.value w1 in
    let w3 : IsWritten I.width d row C.items c2 V.items v2 =
    subst (λ n. IsWritten n d row C.items c2 V.items v2) wide w2 in
    let lc : length c2 ≡ length C.items = (let a = c.write.auto.checks in
    let b = ap length c.deref_mut.ensures.value in omega (arith, a, b)) in
    let lv : length v2 ≡ length V.items = (let a = c.write.auto.values in
    let b = ap length c.deref_mut-2.ensures.value in omega (arith, a, b)) in
    let checks_are = refill_same C.len c2 C.items (let k = C.ok.0 in omega (arith, k, lc)) in
    let values_are = refill_same V.len v2 V.items (let k = V.ok.0 in omega (arith, k, lv)) in
    let room : d + I.width ≤ length C.items = (let e = c.in_ok-grow.ensures.end in
    let k = C.ok.0 in omega (arith, e, k, wide)) in
    let b2 : List Bool = set B.items d true in
    let first : PackingValue = record {
      width = I.width;
      checks = I.checks.items;
      values = I.values.items;
      begun = I.begun.items;
    } in
    let at : List ℕ → List ℕ → PackingValue = λ (x y : List ℕ). record {
      width = I.width;
      checks = x;
      values = y;
      begun = b2;
    } in
    let h1 : IsEven first = subst IsEven (sym c.self.view_is) h in
    let lm : length C.items ≡ max (length I.checks.items) (d + length row) =
    (let m = c.grow.ensures.most in let e = c.in_ok-grow.ensures.end in let l = g.longer in
    let k = C.ok.0 in let o = I.checks.ok.0 in omega (arith, m, e, l, k, o)) in
    let le : length v2 ≡ length c2 = (let a = I.values.ok.0 in let b = I.checks.ok.0 in
    let x = V.ok.0 in let y = C.ok.0 in let z = h1.values in
    let e = c.in_ok-grow.ensures.even (omega (arith, z, a, b)) in
    omega (arith, e, x, y, lv, lc)) in
    let lb : length b2 ≡ length c2 = (let a = I.begun.ok.0 in let b = I.checks.ok.0 in
    let x = B.ok.0 in let y = C.ok.0 in let z = h1.begun in
    let e = c.in_ok-grow.ensures.marks (omega (arith, z, a, b)) in
    let s = length-set B.items d true in omega (arith, e, x, y, s, lc)) in
    let e : at c2 v2 ≡ with_row first row d = exact I.width I.checks.items C.items c2
    I.values.items V.items v2 I.begun.items B.items b2 d row c.self.invariant g room wide fit fresh
    w3
    lc lv refl lm le lb in
    (λ k. at (checks_are k) (values_are k)) ∙ (e ∙
    ap (λ (p : PackingValue). with_row p row d) c.self.view_is))
