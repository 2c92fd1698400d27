-- Which items of a state lead to a symbol: along the links of what bodies begin with, and back.
use Rattle.std.proofs.Common.{ℕ, ◌≡◌, ◌<◌, ◌⊎◌, ◌∙◌, ◌↔◌, List, [], ◌∷◌, length, drop, refl, sym}
use Rattle.std.proofs.Common.{ap}
use Rattle.std.proofs.Common.{subst, inl, inr, Result, Ok, Err, IfOk}
use Rattle.std.specs.List.{Contains}
use Rattle.ysymbols.specs.Grammar.{left_of, body_of}
use Rattle.ylalr.specs.declared.items.Item.{Item}
use Rattle.ylalr.specs.Collection.{Collection, bare_of, state_of}
use Rattle.ybitsets.specs.Rows.{BitRows, Holds}
use Rattle.ybitsets.specs.Links.{Link, Reaches, given, passed, IsSpread}
use Rattle.yprovenance.specs.Reasons.{Opens}
use Rattle.yprovenance.specs.Leads.{Leads, next, opens, IsOpening, AreOpenings, IsAmong}
use Rattle.yprovenance.proofs.SearchSteps.{itemed}

module _ (m : Collection) (q x : ℕ) where
  pub leads_there : {k : Item} → Leads m q x k → Contains (state_of m q) k
  leads_there (next c d) = c
  leads_there (opens o l) = o.there

  -- the symbol after the dot
  pub leads_next : {k : Item} → Leads m q x k → (z : ℕ) × (y : List ℕ) ×
      (drop k.dot (body_of (bare_of m) k.rule) ≡ z ∷ y)
  leads_next (next {y = y} c d) = (x, y, d)
  leads_next (opens {s = s} {y = y} o l) = (left_of (bare_of m) s, y, o.next)

  -- the symbol z is x, or the left side of an item that leads to it
  abbrev pub IsLed : ℕ → Type 0
  IsLed z = (z ≡ x) ⊎ ((s : ℕ) × (left_of (bare_of m) s ≡ z) × (s < length (bare_of m).rules) ×
      Leads m q x (record { rule = s; dot = 0 }))

  pub leads_by : (k : Item) (z : ℕ) (y : List ℕ) → Contains (state_of m q) k →
      drop k.dot (body_of (bare_of m) k.rule) ≡ z ∷ y → IsLed z → Leads m q x k
  leads_by k z y c d (inl e) = next c (d ∙ ap (λ n. n ∷ y) e)
  leads_by k z y c d (inr s) = opens
      (record { there = c; next = d ∙ ap (λ n. n ∷ y) (sym s.1); rule = s.2 }) s.3

  module _ (l : List (List ℕ)) (a : AreOpenings m q l) (old : BitRows) where
    -- the symbol after the dot of an item that leads to x gets what x has
    leads_reach : Holds old x 0 → {k : Item} → Leads m q x k → (z : ℕ) (y : List ℕ) →
        drop k.dot (body_of (bare_of m) k.rule) ≡ z ∷ y → Reaches l old z 0
    leads_reach own (next {y = w} c d) z y e =
        let h : x ∷ w ≡ z ∷ y = sym d ∙ e in
        let s : x ≡ z = cc in
        subst (λ n. Reaches l old n 0) s (given own)
    leads_reach own (opens {s = s} {y = w} o f) z y e =
        let n = leads_next f in
        let h : left_of (bare_of m) s ∷ w ≡ z ∷ y = sym o.next ∙ e in
        let t : left_of (bare_of m) s ≡ z = cc in
        subst (λ n. Reaches l old n 0) t (passed (leads_reach own f n.0 n.1 n.2)
        (a.every (record { rule = s; dot = 0 }) n.0 (left_of (bare_of m) s) (leads_there f)
        (record { rest = n.1; first = refl; left = refl; next = n.2 })))

    module _ (only : (z : ℕ) → Holds old z 0 → z ≡ x)
        (within : (i : Item) → Contains (state_of m q) i → i.rule < length (bare_of m).rules) where
      -- what gets something of x leads to it
      reach_led : {z c : ℕ} → Reaches l old z c → c ≡ 0 → IsLed z
      reach_led (given {p = p} h) e = inl (only p (subst (λ n. Holds old p n) e h))
      reach_led (passed {p = p} {t = t} r k) e =
          let o = a.only p t k in
          let v = o.2 in
          inr (
            o.0.rule,
            sym v.left,
            within o.0 o.1,
            subst (λ i. Leads m q x i)
                (itemed o.0 0 v.first) (leads_by o.0 p v.rest o.1 v.next (reach_led r e)),
          )

      pub among_leads : (n : BitRows) → IsSpread l old n → Holds old x 0 → (i : Item) →
          (Contains (state_of m q) i × IsAmong m n i) ↔ Leads m q x i
      among_leads n s own i = (down, up)
        where
          down : Contains (state_of m q) i × IsAmong m n i → Leads m q x i
          down c = let a = c.1 in leads_by i a.symbol a.rest c.0 a.next
              (reach_led ((s a.symbol 0).0 a.held) refl)

          up : Leads m q x i → Contains (state_of m q) i × IsAmong m n i
          up f = let z = leads_next f in (
            leads_there f,
            record {
              symbol = z.0;
              rest = z.1;
              next = z.2;
              held = (s z.0 0).1 (leads_reach own f z.0 z.1 z.2);
            },
          )

-- what holds of a value, where there is one, by what else does
pub ok_then : {T E : Type 0} (P Q : T → Type 0) → ((v : T) → P v → Q v) → (r : Result T E) →
    IfOk r P → IfOk r Q
ok_then P Q f (Ok v) h = f v h
ok_then P Q f (Err e) h = tt
