-- Closed rows of lookaheads have all that the rules give, which is what prefixes give.
use Rattle.std.proofs.Common.{ℕ, suc, ◌≡◌, ◌≢◌, ◌<◌, ◌↔◌, List, [], ◌∷◌, length, drop, get_or, refl}
use Rattle.std.proofs.Common.{subst, Option, Some, None}
use Rattle.std.specs.List.{Contains, All}
use Rattle.std.proofs.lemmas.List.Elements.{All-head, All-drop}
use Rattle.ysymbols.specs.Grammar.{ContextFree, body_of, IsToken, end_token}
use Rattle.ysymbols.specs.WellFormed.{WellFormed}
use Rattle.ylalr.specs.declared.items.Item.{Item}
use Rattle.ybitsets.specs.Rows.{BitRows, Holds}
use Rattle.ylalr.specs.Items.{Valid, start, closure, move, IsCore, Lookahead}
use Rattle.ylalr.specs.Sets.{moved, IsClosure}
use Rattle.ylalr.specs.States.{StateLists, set_at, AreStates, GotoIs}
use Rattle.ylalr.specs.Looks.{Spread, starts, closes, moves, SoundLooks, ClosedLooks}
use Rattle.ylalr.specs.ItemRows.{ItemRows, IsRowOf, rows_at}
use Rattle.ylalr.proofs.Cores.{every, once, core_start, core_goto}
use Rattle.ylalr.proofs.Fruitful.{valid_rule, valid_token}

-- a spread lookahead is one of a prefix with that core
record Found (g : ContextFree) (t : StateLists) (q r d a : ℕ) : Type 0 where
  within : q < length t.closures
  prefix : List ℕ
  core : IsCore g prefix (set_at t.closures q)
  valid : Valid g prefix r d a

module _ (g : ContextFree) (f : WellFormed g) (t : StateLists) (to : ℕ → ℕ → Option ℕ)
    (are : AreStates g t) (gotos : (q x : ℕ) → q < length t.closures → x < g.symbols →
    GotoIs g t q x (to q x)) where
  next_in : {p : List ℕ} {r d a : ℕ} (x : ℕ) (y : List ℕ) → Valid g p r d a →
      drop d (body_of g r) ≡ x ∷ y → x < g.symbols
  next_in {r = r} {d = d} x y v e =
      let P : ℕ → Type 0 = λ s. s < g.symbols in
      All-head P x y (subst (All P) e (All-drop P d (body_of g r) (f.body r (valid_rule f v))))

  state_goto : (p : List ℕ) (q x n : ℕ) (o : Option ℕ) → o ≡ Some n →
      IsCore g p (set_at t.closures q) → GotoIs g t q x o → (n < length t.closures) ×
      IsCore g (x ∷ p) (set_at t.closures n)
  state_goto p q x n o e c z =
      let w : GotoIs g t q x (Some n) = subst (GotoIs g t q x) e z in (
        w.0,
        core_goto g f p (set_at t.closures q) x (set_at t.kernels n) (set_at t.closures n) c w.1
            (are.each n w.0).closure,
      )

  first_core : IsCore g [] (set_at t.closures 0)
  first_core = core_start g f (set_at t.closures 0)
      (subst (λ k. IsClosure g k (set_at t.closures 0)) are.first (are.each 0 are.some).closure)

  found : {q r d a : ℕ} → Spread g to q r d a → Found g t q r d a
  found starts = record { within = are.some; prefix = []; core = first_core; valid = start }
  found (closes s e h b) =
      let i = found s in
      record { within = i.within; prefix = i.prefix; core = i.core; valid = closure i.valid e h b }
  found (moves {q = q} {n = n} {x = x} {y = y} s e h u) =
      let i = found s in
      let z = state_goto i.prefix q x n (to q x) u i.core
      (gotos q x i.within (next_in x y i.valid e)) in
      record { within = z.0; prefix = x ∷ i.prefix; core = z.1; valid = move i.valid e h }

  pub lookahead_from_spread : (q : ℕ) (i : Item) (a : ℕ) → Spread g to q i.rule i.dot a →
      Lookahead g (set_at t.closures q) i a
  lookahead_from_spread q i a s =
      let z = found s in
      record { prefix = z.prefix; core = z.core; valid = z.valid }

  goto_some_of : (p : List ℕ) (q x r d a : ℕ) (y : List ℕ) → IsCore g p (set_at t.closures q) →
      Valid g p r d a → drop d (body_of g r) ≡ x ∷ y → x ≢ end_token → (o : Option ℕ) →
      GotoIs g t q x o → (n : ℕ) × (o ≡ Some n)
  goto_some_of p q x r d a y c v e h None z =
      absurd (z r (suc d) (moved ((c (record { rule = r; dot = d })).1 (a, v)) e h))
  goto_some_of p q x r d a y c v e h (Some n) z = (n, refl)

  spreads : {p : List ℕ} {r d a : ℕ} → Valid g p r d a → (q : ℕ) → q < length t.closures →
      IsCore g p (set_at t.closures q) → Spread g to q r d a
  spreads start q k c = subst (λ n. Spread g to n 0 0 end_token)
      (once g t are [] 0 q are.some k first_core c) starts
  spreads (closure v e h b) q k c = closes (spreads v q k c) e h b
  spreads (move {p = p} {r = r} {d = d} {a = a} {x = x} {y = y} v e h) q k c =
      let from = every g f t to are gotos p (record { rule = r; dot = d }) (a, v) in
      let row = gotos from.0 x from.1 (next_in x y v e) in
      let n = goto_some_of p from.0 x r d a y from.2 v e h (to from.0 x) row in
      let z = state_goto p from.0 x n.0 (to from.0 x) n.1 from.2 row in
      subst (λ n. Spread g to n r (suc d) a) (once g t are (x ∷ p) n.0 q z.0 k z.1 c)
      (moves (spreads v from.0 from.1 from.2) e h n.1)

  pub spread_from_lookahead : (q : ℕ) (i : Item) (a : ℕ) → q < length t.closures →
      Lookahead g (set_at t.closures q) i a → Spread g to q i.rule i.dot a
  spread_from_lookahead q i a k l = spreads l.valid q k l.core

  module _ (l : ItemRows) (m : BitRows) (shut : ClosedLooks g to t l m) where
    row_is_from : {q r d a : ℕ} → Spread g to q r d a →
        (p : ℕ) × IsRowOf t l q (record { rule = r; dot = d }) p
    row_is_from {q = q} {r = r} {d = d} {a = a} s =
        let z = found s in
        let c = (z.core (record { rule = r; dot = d })).1 (a, z.valid) in (
          get_or (rows_at l q) c.0 0,
          record {
            state = z.within;
            at = record {
              index = c.0;
              within = c.1;
              here = c.2;
              row =
                  refl;
            };
          },
        )

    pub spread_holds : {q r d a : ℕ} → Spread g to q r d a →
        (p : ℕ) → IsRowOf t l q (record { rule = r; dot = d }) p → Holds m p a
    spread_holds starts p h = shut.start p h
    spread_holds (closes {q = q} {r = r} {d = d} {a = a} {s = s} {b = b} {y = y} z e h w) p i =
        let from = row_is_from z in
        let o = from.1 in
        (shut.states q o.state (record { rule = r; dot = d }) from.0 o).closes s h y a b p
        (spread_holds z from.0 o) e w i
    spread_holds (moves {q = q} {n = n} {r = r} {d = d} {a = a} {x = x} {y = y} z e h w) p i =
        let from = row_is_from z in
        let o = from.1 in
        (shut.states q o.state (record { rule = r; dot = d }) from.0 o).moves x n y a p
        (spread_holds z from.0 o) e h w i

    pub looks_exact : SoundLooks g to t l m → (q : ℕ) (i : Item) (p a : ℕ) → IsRowOf t l q i p →
        Holds m p a ↔ Lookahead g (set_at t.closures q) i a
    looks_exact s q i p a h = (
      (λ v. lookahead_from_spread q i a (s q i p a h v)),
      (λ w. spread_holds (spread_from_lookahead q i a h.state w) p h),
    )

  -- each item of a state has a lookahead
  pub some_spread : (q : ℕ) (i : Item) → q < length t.closures → Contains (set_at t.closures q) i →
      (a : ℕ) × Spread g to q i.rule i.dot a
  some_spread q i k c =
      let p = (are.each q k).core in
      let v = (p.1 i).0 c in
      (v.0, spreads v.1 q k p.1)

  pub spread_token : (q r d a : ℕ) → Spread g to q r d a → IsToken g a
  spread_token q r d a s = valid_token f (found s).valid

-- an item that the state doesn't have has no lookahead
pub looks_none : (g : ContextFree) (k : List Item) (i : Item) (a : ℕ) → (Contains k i → ⊥) →
    Lookahead g k i a → ⊥
looks_none g k i a n l = n ((l.core i).1 (a, l.valid))
