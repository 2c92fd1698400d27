-- One step of a search back along a trail.
use Rattle.std.proofs.Common.{ℕ, suc, ◌≡◌, ◌≢◌, ◌<◌, ◌≤◌, ◌-◌, ◌⊎◌, List, [], ◌∷◌}
use Rattle.std.proofs.Common.{length, drop, get_or, refl, sym, ◌∙◌, ap, subst, inl, inr, arith}
use Rattle.std.proofs.Common.{Some, None}
use Rattle.std.proofs.Common.{Option, true, eqb}
use Rattle.std.specs.List.{All, Contains}
use Rattle.std.proofs.Math.Seq.{drop-cons}
use Rattle.std.proofs.lemmas.List.{get_or_past, get_or-map, length-map}
use Rattle.std.proofs.lemmas.Bool.{eqb-true}
use Rattle.std.specs.Option.{option_eq}
use Rattle.ysymbols.specs.Grammar.{left_of, body_of, end_token}
use Rattle.ysymbols.specs.Forms.{Nullable, First}
use Rattle.ysymbols.specs.WellFormed.{WellFormed}
use Rattle.ylalr.specs.declared.items.Item.{Item}
use Rattle.ylalr.specs.Items.{Lookahead}
use Rattle.ylalr.specs.Collection.{Collection, HasStates, bare_of, state_of, goto_in}
use Rattle.ylalr.specs.Sets.{IsWithin}
use Rattle.yprovenance.specs.declared.reason.Place.{Place}
use Rattle.yprovenance.specs.declared.reason.Cause.{Cause}
use Rattle.yprovenance.specs.declared.reason.Cause.TheVariants.{Starts, Begins, Passes, Moves}
use Rattle.yprovenance.specs.declared.trail.Entry.{Entry}
use Rattle.yprovenance.specs.Reasons.{Opens, Has, starts, begins, Gives, passes, moves, place_of}
use Rattle.yprovenance.specs.Trail.{blank_entry, entry_at, places_of, Puts, IsPlace, IsTrail}
use Rattle.yprovenance.specs.Trail.{IsTried}
use Rattle.yprovenance.specs.Trail.{IsVisited}
use Rattle.yprovenance.proofs.ReachSteps.{came, no_lookahead}
use Rattle.yprovenance.proofs.TrailSteps.{puts_trail}

-- an element of a list is like all
pub of_all : {A : Type 0} (P : A → Type 0) (xs : List A) (x : A) → All P xs → Contains xs x → P x
of_all P xs x a c = subst P c.2 (a c.0 x c.1)

-- an option that is equal to a number
pub some_eq : (o : Option ℕ) (n : ℕ) → option_eq eqb o (Some n) ≡ true → o ≡ Some n
some_eq None n e = absurd (cc)
some_eq (Some k) n e = ap Some (eqb-true k n e)

-- a state that has an item
pub state_within : (m : Collection) (q : ℕ) (i : Item) → Contains (state_of m q) i →
    q < length m.states
state_within m q i c = go (either q (length m.states))
  where
    either : (a b : ℕ) → (a < b) ⊎ (b ≤ a)
    either a b = grind arith

    go : (q < length m.states) ⊎ (length m.states ≤ q) → q < length m.states
    go (inl h) = h
    go (inr h) =
        let none = subst (λ (xs : List Item). Contains xs i) (get_or_past m.states q [] h) c in
        let l = none.1 in
        absurd (omega (arith, l))

-- the symbol that a search reads before the dot
pub symbol_is : (m : Collection) (e f : Entry) (b : List ℕ) (d : ℕ) → e ≡ f →
    b ≡ body_of (bare_of m) e.place.item.rule → f.place.item.dot ≡ suc d →
    get_or b (e.place.item.dot - 1) 0 ≡ get_or (body_of (bare_of m) f.place.item.rule) d 0
symbol_is m e f b d same is dot =
    let P : Entry → ℕ = λ (x : Entry). get_or (body_of (bare_of m) x.place.item.rule)
    (x.place.item.dot - 1) 0 in
    let less : f.place.item.dot - 1 ≡ d = omega (arith, dot) in
    ap (λ (x : List ℕ). get_or x (e.place.item.dot - 1) 0) is ∙ ap P same ∙ ap
    (λ n. get_or (body_of (bare_of m) f.place.item.rule) n 0) less

-- a place by its dot
dotted : (v : Place) (d : ℕ) → v.item.dot ≡ d → place_of v.state v.item.rule d ≡ v
dotted v d e = ap (λ n. place_of v.state v.item.rule n) (sym e)

pub itemed : (i : Item) (d : ℕ) → i.dot ≡ d → i ≡ record { rule = i.rule; dot = d }
itemed i d e = ap (λ n. record { rule = i.rule; dot = n }) e

-- the place p gives to v, whose dot is past a symbol, by the goto
pub record IsMoved (m : Collection) (p v : Place) (d : ℕ) : Type 0 where
  pub symbol : ℕ
  pub rest : List ℕ
  pub place : p ≡ place_of p.state v.item.rule d
  pub there : Contains (state_of m p.state) (record { rule = v.item.rule; dot = d })
  pub next : drop d (body_of (bare_of m) v.item.rule) ≡ symbol ∷ rest
  pub other : symbol ≢ end_token
  pub goto : goto_in m p.state symbol ≡ Some v.state

pub gives_moved : {m : Collection} {p v : Place} {c : Cause} (d : ℕ) → v.item.dot ≡ suc d →
    Gives m p v c → IsMoved m p v d
gives_moved d e (passes o n) = absurd (omega (arith, e))
gives_moved {m = m} d e (moves {q = q} {n = n} {r = r} {d = f} {x = x} {y = y} t h o g) =
    let same : f ≡ d = omega (arith, e) in
    subst (λ z. IsMoved m (place_of q r f) (place_of n r (suc f)) z) same
    (record { symbol = x; rest = y; place = refl; there = t; next = h; other = o; goto = g })

-- the place p gives to v, whose dot is at 0, by the closure
pub record IsPassed (m : Collection) (p v : Place) : Type 0 where
  pub rest : List ℕ
  pub state : p ≡ record { state = v.state; item = p.item }
  pub opens : Opens m v.state p.item v.item.rule rest
  pub vanishes : Nullable (bare_of m) rest

pub gives_passed : {m : Collection} {p v : Place} {c : Cause} → v.item.dot ≡ 0 → Gives m p v c →
    IsPassed m p v
gives_passed e (passes {y = y} o n) = record {
  rest = y;
  state = refl;
  opens = o;
  vanishes = n;
}
gives_passed e (moves t h o g) = absurd (omega (arith, e))

module _ (m : Collection) (s : HasStates m) where
  -- an item of a state is a rule with a dot in it
  pub within : (v : Place) → IsPlace m v → IsWithin (bare_of m) v.item
  within v p = of_all (λ i. IsWithin (bare_of m) i) (state_of m v.state) v.item
      (s.range v.state p.state) p.item

  -- the symbol before the dot
  pub symbol_before : (v : Place) (d : ℕ) → IsPlace m v → v.item.dot ≡ suc d →
      drop d (body_of (bare_of m) v.item.rule) ≡ get_or (body_of (bare_of m) v.item.rule) d 0 ∷
      drop (suc d) (body_of (bare_of m) v.item.rule)
  symbol_before v d p e =
      let z = (within v p).1 in
      drop-cons (body_of (bare_of m) v.item.rule) d 0 (omega (arith, z, e))

  pub moved_symbol : (p v : Place) (d : ℕ) → IsPlace m v → v.item.dot ≡ suc d →
      (i : IsMoved m p v d) → i.symbol ≡ get_or (body_of (bare_of m) v.item.rule) d 0
  moved_symbol p v d k e i = let h = sym i.next ∙ symbol_before v d k e in cc

  -- the item with its dot one earlier is put, in a state from which a goto leads here
  pub come_trail : (l new : List Entry) (k q x d : ℕ) (e : Entry) (y : List ℕ) → IsTrail m l →
      k < length l → e ≡ entry_at l k → q < length m.states → x < (bare_of m).symbols →
      x ≢ end_token → e.place.item.dot ≡ suc d →
      drop d (body_of (bare_of m) e.place.item.rule) ≡ x ∷ y →
      goto_in m q x ≡ Some e.place.state →
      Puts l (record { place = place_of q e.place.item.rule d; cause = Moves; gives = k }) new →
      IsTrail m new
  come_trail l new k q x d e y t h same lq lx n dot next goto p =
      let v = e.place in
      let at : IsPlace m v = subst (λ (z : Entry). IsPlace m z.place) (sym same) (t.places k h) in
      let before = came m s q v.state x v.item.rule d lq lx goto
      (subst (λ (i : Item). Contains (state_of m v.state) i) (itemed v.item (suc d) dot) at.item) in
      puts_trail m l (record { place = place_of q v.item.rule d; cause = Moves; gives = k }) t
      (record { state = lq; item = before }) h
      (subst (λ (z : Place). Gives m (place_of q v.item.rule d) z Moves)
      (dotted v (suc d) dot ∙ ap (λ (z : Entry). z.place) same) (moves before next n goto)) new p

  -- the item that has the left side of a place after its dot
  pub opens_here : (v : Place) (i : Item) (y : List ℕ) → IsPlace m v →
      Contains (state_of m v.state) i →
      drop i.dot (body_of (bare_of m) i.rule) ≡ left_of (bare_of m) v.item.rule ∷ y →
      Opens m v.state i v.item.rule y
  opens_here v i y p c e = record { there = c; next = e; rule = (within v p).0 }

  pub has_begun : (a : ℕ) (v : Place) (i : Item) (y : List ℕ) → IsPlace m v → v.item.dot ≡ 0 →
      Contains (state_of m v.state) i →
      drop i.dot (body_of (bare_of m) i.rule) ≡ left_of (bare_of m) v.item.rule ∷ y →
      First (bare_of m) y a → Has m a v (Begins i)
  has_begun a v i y p z c e f = subst (λ (u : Place). Has m a u (Begins i)) (dotted v 0 z)
      (begins (opens_here v i y p c e) f)

  -- an item of the same state is put, where what stands after the left side vanishes
  pub open_trail : (l new : List Entry) (k : ℕ) (e : Entry) (i : Item) (y : List ℕ) → IsTrail m l →
      k < length l → e ≡ entry_at l k → e.place.item.dot ≡ 0 →
      Contains (state_of m e.place.state) i →
      drop i.dot (body_of (bare_of m) i.rule) ≡ left_of (bare_of m) e.place.item.rule ∷ y →
      Nullable (bare_of m) y →
      Puts l (record { place = record { state = e.place.state; item = i }; cause = Passes; gives = k })
      new → IsTrail m new
  open_trail l new k e i y t h same z c next n p =
      let v = e.place in
      let at : IsPlace m v = subst (λ (z : Entry). IsPlace m z.place) (sym same) (t.places k h) in
      puts_trail m l
      (record { place = record { state = v.state; item = i }; cause = Passes; gives = k }) t
      (record { state = at.state; item = c }) h
      (subst (λ (u : Place). Gives m (record { state = v.state; item = i }) u Passes)
      (dotted v 0 z ∙ ap (λ (z : Entry). z.place) same) (passes (opens_here v i y at c next) n))
      new p

module _ (m : Collection) where
  -- once all items of the state are tried, a place with the dot at 0 is visited
  pub visited_open : (a : ℕ) (l : List Entry) (v : Place) → v.item.dot ≡ 0 →
      (Has m a v Starts → ⊥) → ((i : Item) → Contains (state_of m v.state) i → IsTried m a l v i) →
      IsVisited m a l v
  visited_open a l v z o t = record {
    none = λ c h. none c h o t;
    every = λ p c g.
        let i = gives_passed z g in
        subst (λ (u : Place). Contains (places_of l) u) (sym i.state)
        ((t p.item i.opens.there).every i.rest i.opens.next i.vanishes);
  }
    where
      none : {u : Place} (c : Cause) → Has m a u c → (Has m a u Starts → ⊥) →
          ((i : Item) → Contains (state_of m u.state) i → IsTried m a l u i) → ⊥
      none c (starts e) o t = o (starts e)
      none c (begins {k = k} {y = y} w f) o t = (t k w.there).none y w.next f

  -- a place with its dot past a symbol is visited once all that give to it are there
  pub visited_back : (a : ℕ) (l : List Entry) (v : Place) → 0 < v.item.dot →
      ((p : Place) (c : Cause) → Gives m p v c → Contains (places_of l) p) → IsVisited m a l v
  visited_back a l v z e = record { none = λ c h. none h z; every = e }
    where
      none : {u : Place} {c : Cause} → Has m a u c → 0 < u.item.dot → ⊥
      none (starts e) h = omega (arith, h)
      none (begins o f) h = omega (arith, h)

-- the item before the whole input
pub starts_here : (m : Collection) (a : ℕ) (v : Place) → a ≡ end_token → v.state ≡ 0 →
    v.item.rule ≡ 0 → v.item.dot ≡ 0 → Has m a v Starts
starts_here m a v e q r d = subst (λ (u : Place). Has m a u Starts)
    (sym (ap (λ k. place_of k v.item.rule v.item.dot) q ∙ ap (λ k. place_of 0 k v.item.dot) r ∙ ap
    (λ k. place_of 0 0 k) d)) (starts e)

-- only that starts
pub has_starts : {m : Collection} {a : ℕ} {v : Place} {c : Cause} → Has m a v c → c ≡ Starts →
    (a ≡ end_token) × (v.state ≡ 0) × (v.item.rule ≡ 0) × (v.item.dot ≡ 0)
has_starts (starts e) h = (e, refl, refl, refl)
has_starts (begins o f) h = absurd (cc)

-- a place of an entry
pub place_there : (l : List Entry) (k : ℕ) → k < length l →
    Contains (places_of l) (entry_at l k).place
place_there l k h = (
  k,
  (let n = length-map l (λ (e : Entry). e.place) in omega (arith, n, h)),
  get_or-map (λ (e : Entry). e.place) l k blank_entry (entry_at l k).place h,
)

pub place_at : (l : List Entry) (p : Place) → Contains (places_of l) p →
    (k : ℕ) × (k < length l) × ((entry_at l k).place ≡ p)
place_at l p c =
    let h : c.0 < length l = (let n = length-map l (λ (e : Entry). e.place) in let z = c.1 in
    omega (arith, n, z)) in
    (c.0, h, sym (get_or-map (λ (e : Entry). e.place) l c.0 blank_entry p h) ∙ c.2)

-- once every entry is visited, the first has no lookahead
pub all_visited : (m : Collection) (a : ℕ) (l : List Entry) → WellFormed (bare_of m) →
    HasStates m → IsTrail m l →
    ((k : ℕ) → k < length l → IsVisited m a l (entry_at l k).place) →
    Lookahead (bare_of m) (state_of m (entry_at l 0).place.state) (entry_at l 0).place.item a → ⊥
all_visited m a l w s t v = no_lookahead m w s a (λ p. Contains (places_of l) p) none every
    (entry_at l 0).place.state (entry_at l 0).place.item (t.places 0 t.some).state
    (place_there l 0 t.some)
  where
    none : (p : Place) (c : Cause) → Contains (places_of l) p → Has m a p c → ⊥
    none p c h has =
        let k = place_at l p h in
        (v k.0 k.1).none c (subst (λ (u : Place). Has m a u c) (sym k.2) has)

    every : (u p : Place) (c : Cause) → Contains (places_of l) u → Gives m p u c →
        Contains (places_of l) p
    every u p c h g =
        let k = place_at l u h in
        (v k.0 k.1).every p c (subst (λ (z : Place). Gives m p z c) (sym k.2) g)
