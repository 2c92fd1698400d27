-- One symbol stands before all dots of a state.
use Rattle.std.proofs.Common.{ℕ, suc, ◌≡◌, ◌+◌, ◌-◌, ◌<◌, ◌≤◌, ◌⊎◌, inl, inr, List, [], ◌∷◌, ◌++◌}
use Rattle.std.proofs.Common.{length, drop, get_or, slice_index, refl, sym, ap, ◌∙◌, subst, arith}
use Rattle.std.proofs.Common.{Some}
use Rattle.std.specs.List.{All, Contains}
use Rattle.std.proofs.Math.Seq.{drop-cons}
use Rattle.std.proofs.lemmas.List.Elements.{All-head, All-drop, Contains-get_or}
use Rattle.ysymbols.specs.Grammar.{ContextFree, body_of}
use Rattle.ysymbols.specs.WellFormed.{WellFormed}
use Rattle.ylalr.specs.declared.items.Item.{Item}
use Rattle.ylalr.specs.Collection.{Collection, HasStates, IsGoto, bare_of, state_of, goto_in}
use Rattle.ylalr.specs.Items.{Valid, start, closure, move, IsCore}
use Rattle.ycode.specs.Symbols.{StandsBefore}
use Rattle.ycode.proofs.EntrySteps.{below_or_last}
use Rattle.ycode.proofs.CellLoops.{before, last}

-- after x some item has moved over it
kernel : (g : ContextFree) (x : ℕ) (p : List ℕ) {s : List ℕ} {r d a : ℕ} → Valid g s r d a →
    s ≡ x ∷ p → (r' d' a' : ℕ) × Valid g (x ∷ p) r' (suc d') a'
kernel g x p start e = cc
kernel g x p (closure v e h f) same = kernel g x p v same
kernel g x p (move {p = s} {r = r} {d = d} {a = a} {x = z} {y = y} v e n) same =
    (r, d, a, subst (λ l. Valid g l r (suc d) a) same (move v e n))

-- and each item that has moved has moved over x
moved_over : (g : ContextFree) (x : ℕ) (p : List ℕ) (k : ℕ) {s : List ℕ} {r d a : ℕ} →
    Valid g s r d a → s ≡ x ∷ p → d ≡ suc k → (y : List ℕ) × (drop k (body_of g r) ≡ x ∷ y)
moved_over g x p k start e l = cc
moved_over g x p k (closure v e h f) same l = absurd (let z : 0 ≡ suc k = l in cc)
moved_over g x p k (move {p = s} {r = r} {d = d} {a = a} {x = z} {y = y} v e n) same l =
    let head : z ≡ x = ap (λ l. get_or l 0 0) same in
    let place : d ≡ k = omega (arith, l) in (
      y,
      ap (λ i. drop i (body_of g r)) (sym place) ∙ (e ∙ ap (λ z. z ∷ y) head),
    )

first_of : (s x : ℕ) (y z l : List ℕ) → l ≡ s ∷ y → l ≡ x ∷ z → s ≡ x
first_of s x y z l e f = ap (λ l. get_or l 0 0) (sym e ∙ f)

-- what stands before a dot in a state is the symbol of each goto that leads there
pub symbol_is : (m : Collection) (q x n s : ℕ) → HasStates m → q < length m.states →
    x < (bare_of m).symbols → goto_in m q x ≡ Some n → StandsBefore (bare_of m) (state_of m n) s →
    s ≡ x
symbol_is m q x n s h l b e w =
    let p = h.core q l in go (subst (IsGoto m q x) e (h.leads q x l b) p.0 p.1) w
  where
    pre : List ℕ
    pre = (h.core q l).0

    go : (n < length m.states) × IsCore (bare_of m) (x ∷ pre) (state_of m n) →
        StandsBefore (bare_of m) (state_of m n) s → s ≡ x
    go to (inl (i, c, (d, dot, (y, rest)))) =
        let valid = (to.1 i).0 c in
        let over = moved_over (bare_of m) x pre d valid.1 refl dot in
        first_of s x y over.0 (drop d (body_of (bare_of m) i.rule)) rest over.1
    go to (inr none) =
        let zero_item : Item = record { rule = 0; dot = 0 } in
        let i = get_or (state_of m n) 0 zero_item in
        let inside : Contains (state_of m n) i = Contains-get_or (state_of m n) 0 zero_item
        (h.filled n to.0) in
        let valid = (to.1 i).0 inside in
        let k = kernel (bare_of m) x pre valid.1 refl in
        let j : Item = record { rule = k.0; dot = suc k.1 } in
        let there : Contains (state_of m n) j = (to.1 j).1 (k.2, k.3) in
        absurd (let z : suc k.1 ≡ 0 = none.0 j there in cc)

-- it is a symbol
pub symbol_small : (g : ContextFree) (k : List Item) (s : ℕ) → WellFormed g →
    ((i : Item) → Contains k i → i.rule < length g.rules) → StandsBefore g k s → s ≤ g.symbols
symbol_small g k s w range (inl (i, c, (d, dot, (y, rest)))) =
    let all = All-drop (λ (x : ℕ). x < g.symbols) d (body_of g i.rule)
    (w.body i.rule (range i c)) in
    let first : s < g.symbols = All-head (λ (x : ℕ). x < g.symbols) s y
    (subst (All (λ (x : ℕ). x < g.symbols)) rest all) in
    omega (arith, first)
symbol_small g k s w range (inr none) = omega (arith, none.1)

-- the symbol at a place stands there
pub stands_at : (g : ContextFree) (k : List Item) (i : Item) (s : ℕ) → Contains k i → 0 < i.dot →
    i.dot ≤ length (body_of g i.rule) → s ≡ get_or (body_of g i.rule) (i.dot - 1) 0 →
    StandsBefore g k s
stands_at g k i s c h l e = inl (
  i,
  c,
  (
    i.dot - 1,
    dot,
    (
      drop (suc (i.dot - 1)) (body_of g i.rule),
      drop-cons (body_of g i.rule) (i.dot - 1) 0 (omega (arith, h, l)) ∙
          ap (λ x. x ∷ drop (suc (i.dot - 1)) (body_of g i.rule)) (sym e),
    ),
  ),
)
  where
    dot : i.dot ≡ suc (i.dot - 1)
    dot = omega (arith, h)

-- the symbols with that of one more state
pub symbols_more : (g : ContextFree) (state : ℕ → List Item) (old new : List ℕ) (q s : ℕ) →
    length old ≡ q → new ≡ old ++ s ∷ [] → StandsBefore g (state q) s →
    ((k : ℕ) → k < q → StandsBefore g (state k) (slice_index old k)) → (k : ℕ) → k < q + 1 →
    StandsBefore g (state k) (slice_index new k)
symbols_more g state old new q s len e here each k l = go (below_or_last k q l)
  where
    go : (k < q) ⊎ (k ≡ q) → StandsBefore g (state k) (slice_index new k)
    go (inl h) = subst (StandsBefore g (state k))
        (sym (ap (λ x. slice_index x k) e ∙ before old s 0 q k len h)) (each k h)
    go (inr h) = subst (StandsBefore g (state k))
        (sym (ap (λ x. slice_index x k) e ∙ last old s 0 q k len h))
        (subst (λ x. StandsBefore g (state x) s) (sym h) here)
