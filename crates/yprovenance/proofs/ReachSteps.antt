-- What gives an item its lookaheads: the place before a goto, and no lookahead without a place that
-- has it of itself.
use Rattle.std.proofs.Common.{ℕ, suc, ◌≡◌, ◌≢◌, ◌<◌, List, [], ◌∷◌, length, drop, refl}
use Rattle.std.proofs.Common.{sym, ◌∙◌, subst, inl, inr, arith, Option, Some, None, MatchOption}
use Rattle.std.specs.List.{All, Contains}
use Rattle.std.proofs.lemmas.List.Elements.{All-head, All-drop}
use Rattle.ysymbols.specs.Grammar.{ContextFree, IsToken, left_of, body_of, end_token}
use Rattle.ysymbols.specs.Forms.{First}
use Rattle.ysymbols.specs.WellFormed.{WellFormed}
use Rattle.ylalr.specs.declared.items.Item.{Item}
use Rattle.ylalr.specs.Items.{Valid, start, closure, move, InCore, IsCore, Lookahead}
use Rattle.ylalr.specs.Collection.{Collection, HasStates, bare_of, state_of, goto_in}
use Rattle.ylalr.proofs.Vanish.{more, nullable_from_vanishes}
use Rattle.ylalr.proofs.Begins.{Begins as BeginsForm, here, over, into, begins_split}
use Rattle.ylalr.proofs.Begins.{begins_from_first, first_is}
use Rattle.ylalr.proofs.Fruitful.{valid_rule, valid_token}
use Rattle.yprovenance.specs.declared.reason.Place.{Place}
use Rattle.yprovenance.specs.declared.reason.Cause.{Cause}
use Rattle.yprovenance.specs.declared.reason.Cause.TheVariants.{Starts, Begins, Passes, Moves}
use Rattle.yprovenance.specs.Reasons.{Opens, Has, starts, begins, Gives, passes, moves, place_of}

-- only the token itself begins the form of one token
token_begins : {g : ContextFree} {t a : ℕ} → WellFormed g → IsToken g a → BeginsForm g t (a ∷ []) →
    t ≡ a
token_begins w k here = refl
token_begins w k (over (more r h e v z) b) = let l = w.nonterminal r h in absurd (omega arith)
token_begins w k (into r h e b) = let l = w.nonterminal r h in absurd (omega arith)

-- an item with its dot past a symbol comes from that with its dot before it
back : {g : ContextFree} {p : List ℕ} {r d b : ℕ} → Valid g p r d b → (x : ℕ) (u : List ℕ) (n : ℕ) →
    p ≡ x ∷ u → d ≡ suc n → Valid g u r n b
back start x u n e h = absurd (cc)
back (closure v q k f) x u n e h = absurd (omega (arith, h))
back {g = g} (move {p = p} {r = r} {d = d} {a = a} v q k) x u n e h =
    let same : p ≡ u = cc in
    let dot : d ≡ n = omega (arith, h) in
    subst (λ z. Valid g z r n a) same (subst (λ z. Valid g p r z a) dot v)

module _ (m : Collection) (s : HasStates m) where
  -- an item of the state that the goto leads to has its dot one earlier in the state before
  pub came : (q n x r d : ℕ) → q < length m.states → x < (bare_of m).symbols →
      goto_in m q x ≡ Some n → Contains (state_of m n) (record { rule = r; dot = suc d }) →
      Contains (state_of m q) (record { rule = r; dot = d })
  came q n x r d h k e c =
      let core = s.core q h in
      let to = subst (λ o. MatchOption o ((i : Item) → InCore (bare_of m) (x ∷ core.0) i → ⊥)
      (λ n. (n < length m.states) × IsCore (bare_of m) (x ∷ core.0) (state_of m n))) e
      (s.leads q x h k core.0 core.1) in
      let v = (to.1 (record { rule = r; dot = suc d })).0 c in
      (core.1 (record { rule = r; dot = d })).1 (v.0, back v.1 x core.0 d refl refl)

module _ (m : Collection) (w : WellFormed (bare_of m)) (s : HasStates m) where
  -- the symbol after a dot
  next_in : {p : List ℕ} {r d b : ℕ} (x : ℕ) (y : List ℕ) → Valid (bare_of m) p r d b →
      drop d (body_of (bare_of m) r) ≡ x ∷ y → x < (bare_of m).symbols
  next_in {r = r} {d = d} x y v e =
      let P : ℕ → Type 0 = λ s. s < (bare_of m).symbols in
      All-head P x y (subst (All P) e (All-drop P d (body_of (bare_of m) r)
      (w.body r (valid_rule w v))))

  -- where the goto over the symbol after a dot leads
  leads_to : {p : List ℕ} {r d b x : ℕ} {y : List ℕ} → Valid (bare_of m) p r d b →
      drop d (body_of (bare_of m) r) ≡ x ∷ y → x ≢ end_token → (f q : ℕ) → f < length m.states →
      IsCore (bare_of m) p (state_of m f) → q < length m.states →
      IsCore (bare_of m) (x ∷ p) (state_of m q) → goto_in m f x ≡ Some q
  leads_to {p = p} {r = r} {d = d} {b = b} {x = x} {y = y} v e h f q l c k z =
      go (goto_in m f x) refl (s.leads f x l (next_in x y v e) p c)
    where
      go : (o : Option ℕ) → goto_in m f x ≡ o →
          MatchOption o ((i : Item) → InCore (bare_of m) (x ∷ p) i → ⊥)
          (λ n. (n < length m.states) × IsCore (bare_of m) (x ∷ p) (state_of m n)) →
          goto_in m f x ≡ Some q
      go None o w = absurd (w (record { rule = r; dot = suc d }) (b, move v e h))
      go (Some n) o w = subst (λ n. goto_in m f x ≡ Some n) (s.once (x ∷ p) n q w.0 k w.1 z) o

  -- the item of a core opens the rule
  opens : (p : List ℕ) (q n r d b : ℕ) (y : List ℕ) → Valid (bare_of m) p r d b →
      IsCore (bare_of m) p (state_of m q) →
      drop d (body_of (bare_of m) r) ≡ left_of (bare_of m) n ∷ y → n < length (bare_of m).rules →
      Opens m q (record { rule = r; dot = d }) n y
  opens p q n r d b y v c e h = record {
    there = (c (record { rule = r; dot = d })).1 (b, v);
    next = e;
    rule = h;
  }

  module _ (a : ℕ) (V : Place → Type 0) (none : (p : Place) (c : Cause) → V p → Has m a p c → ⊥)
      (every : (v p : Place) (c : Cause) → V v → Gives m p v c → V p) where
    -- from a place of a closed set that has no source, no lookahead
    nowhere : {p : List ℕ} {r d b : ℕ} → Valid (bare_of m) p r d b → b ≡ a → (q : ℕ) →
        q < length m.states → IsCore (bare_of m) p (state_of m q) → V (place_of q r d) → ⊥
    nowhere start e q k c v =
        let zero : q ≡ 0 = s.once [] q 0 k (omega (arith, k)) c s.first in
        none (place_of 0 0 0) Starts (subst (λ n. V (place_of n 0 0)) zero v) (starts (sym e))
    nowhere (closure {p = p} {r = r} {d = d} {a = f} {s = n} {b = b} {y = y} i t h g) e q k c v =
        elim (begins_split y (f ∷ []) (begins_from_first g)) as (λ z. ⊥) [
          | inl z ↦ none (place_of q n 0) (Begins (record { rule = r; dot = d })) v
              (begins (opens p q n r d f y i c t h)
              (subst (λ t. First (bare_of m) y t) e (first_is (bare_of m) b y g.token z)))
          | inr z ↦ nowhere i (sym (token_begins w (valid_token w i) z.1) ∙ e) q k c
              (every (place_of q n 0) (place_of q r d) Passes v
              (passes (opens p q n r d f y i c t h) (nullable_from_vanishes z.0)))
        ]
    nowhere (move {p = p} {r = r} {d = d} {a = b} {x = x} {y = y} i t h) e q k c v =
        let from = s.every p (record { rule = r; dot = d }) (b, i) in
        nowhere i e from.0 from.1 from.2 (every (place_of q r (suc d)) (place_of from.0 r d) Moves v
        (moves ((from.2 (record { rule = r; dot = d })).1 (b, i)) t h
        (leads_to i t h from.0 q from.1 from.2 k c)))

    pub no_lookahead : (q : ℕ) (i : Item) → q < length m.states →
        V (record { state = q; item = i }) → Lookahead (bare_of m) (state_of m q) i a → ⊥
    no_lookahead q i k v l = nowhere l.valid refl q k l.core v
