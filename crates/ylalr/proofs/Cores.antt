-- Cores by goto and closure, without lookaheads and without prefixes.
use Rattle.std.proofs.Common.{ℕ, zero, suc, ◌≡◌, ◌≢◌, ◌<◌, List, [], ◌∷◌, length, drop, get_or}
use Rattle.std.proofs.Common.{refl, sym, ◌∙◌, subst, inl, inr, ◌⊎◌, arith, Option, Some, None}
use Rattle.std.specs.List.{Contains, All}
use Rattle.std.proofs.lemmas.List.Elements.{All-head, All-drop, Contains-get_or}
use Rattle.ysymbols.specs.Grammar.{ContextFree, body_of, end_token}
use Rattle.ysymbols.specs.WellFormed.{WellFormed}
use Rattle.ylalr.specs.declared.items.Item.{Item}
use Rattle.ylalr.specs.Items.{InCore, IsCore}
use Rattle.ylalr.specs.Sets.{Closure, given, opened, Kernel, moved, Begin, begin, ItemsOf}
use Rattle.ylalr.specs.Sets.{IsClosure}
use Rattle.ylalr.specs.Sets.{IsAdvanced}
use Rattle.ylalr.specs.States.{StateLists, set_at, AreStates, IsState, GotoIs, start_item}
use Rattle.ylalr.proofs.Ascending.{same_ascending}
use Rattle.ylalr.proofs.Live.{live_from_valid}
use Rattle.ylalr.proofs.Fruitful.{valid_from_live, valid_rule}
use Rattle.std.proofs.Math.Nat.{eq-zero-or-pos}

pub closed_map : {g : ContextFree} {K L : ℕ → ℕ → Type 0} {r d : ℕ} → ((r d : ℕ) → K r d → L r d) →
    Closure g K r d → Closure g L r d
closed_map f (given {r = r} {d = d} c) = given (f r d c)
closed_map f (opened c e h) = opened (closed_map f c) e h

pub moved_map : {g : ContextFree} {K L : ℕ → ℕ → Type 0} {x r d : ℕ} → ((r d : ℕ) → K r d → L r d) →
    Kernel g K x r d → Kernel g L x r d
moved_map f (moved {r = r} {d = d} c e n) = moved (f r d c) e n

-- the core of the empty prefix
start_in : {r d : ℕ} → Begin r d → Contains {X = Item} (record { rule = 0; dot = 0 } ∷ [])
    (record { rule = r; dot = d })
start_in begin = (0, omega arith, refl)

only : (k r d : ℕ) → k < 1 → ◌≡◌ {A = Item} (get_or (record { rule = 0; dot = 0 } ∷ []) k
    (record { rule = r; dot = d })) (record { rule = r; dot = d }) → Begin r d
only zero r d h e =
    subst (λ (t : Item). Begin t.rule t.dot) e begin
only (suc k) r d h e = absurd (omega arith)

pub core_start : (g : ContextFree) → WellFormed g → (w : List Item) →
    IsClosure g (record { rule = 0; dot = 0 } ∷ []) w → IsCore g [] w
core_start g f w h i = (
  (λ c. valid_from_live g f [] i.rule i.dot (closed_map (λ r d z. only z.0 r d z.1 z.2)
      ((h i).0 c))),
  (λ v. (h i).1 (closed_map (λ r d z. start_in z) (live_from_valid v.1))),
)

-- the core after one more symbol
pub core_goto : (g : ContextFree) → WellFormed g → (p : List ℕ) (v : List Item) (x : ℕ)
    (k w : List Item) → IsCore g p v → IsAdvanced g v x k → IsClosure g k w → IsCore g (x ∷ p) w
core_goto g f p v x k w c a h i = (
  (λ z. valid_from_live g f (x ∷ p) i.rule i.dot
      (closed_map (λ r d m. moved_map
      (λ r d y. live_from_valid ((c (record { rule = r; dot = d })).0 y).1)
      ((a (record { rule = r; dot = d })).0 m)) ((h i).0 z))),
  (λ z. (h i).1 (closed_map (λ r d m. (a (record { rule = r; dot = d })).1
      (moved_map (λ r d y. (c (record { rule = r; dot = d })).1 (valid_from_live g f p r d y)) m))
      (live_from_valid z.1))),
)

-- Every item of a core after one more symbol comes from one that was moved.
record Source (g : ContextFree) (K : ℕ → ℕ → Type 0) (x : ℕ) : Type 0 where
  rule : ℕ
  dot : ℕ
  rest : List ℕ
  item : K rule dot
  next : drop dot (body_of g rule) ≡ x ∷ rest
  inside : x ≢ end_token

moved_source : {g : ContextFree} {K : ℕ → ℕ → Type 0} {x r d : ℕ} → Kernel g K x r d → Source g K x
moved_source (moved {r = r} {d = d} {y = y} c e n) = record {
  rule = r;
  dot = d;
  rest = y;
  item = c;
  next = e;
  inside = n;
}

source : {g : ContextFree} {K : ℕ → ℕ → Type 0} {x r d : ℕ} → Closure g (Kernel g K x) r d →
    Source g K x
source (given m) = moved_source m
source (opened c e h) = source c

-- no item after x, where none moves
pub source_item : (g : ContextFree) → WellFormed g → (p : List ℕ) (v : List Item) (x : ℕ)
    (i : Item) → IsCore g p v → InCore g (x ∷ p) i → ((r d : ℕ) → Kernel g (ItemsOf v) x r d → ⊥) →
    ⊥
source_item g f p v x i c w none_moves =
    let s = source (live_from_valid w.1) in
    let l = valid_from_live g f p s.rule s.dot s.item in
    none_moves s.rule (suc s.dot) (moved ((c (record { rule = s.rule; dot = s.dot })).1 l) s.next
    s.inside)

module _ (g : ContextFree) (f : WellFormed g) (t : StateLists) (to : ℕ → ℕ → Option ℕ)
    (are : AreStates g t) (gotos : (q x : ℕ) → q < length t.closures → x < g.symbols →
    GotoIs g t q x (to q x)) where
  symbol : (p : List ℕ) (r d x : ℕ) (y : List ℕ) → InCore g p (record { rule = r; dot = d }) →
      drop d (body_of g r) ≡ x ∷ y → x < g.symbols
  symbol p r d x y c e =
      let P : ℕ → Type 0 = λ s. s < g.symbols in
      All-head P x y (subst (All P) e (All-drop P d (body_of g r) (f.body r (valid_rule f c.1))))

  goto_found : (p : List ℕ) (x q : ℕ) (r d : ℕ) → q < length t.closures →
      IsCore g p (set_at t.closures q) → Kernel g (ItemsOf (set_at t.closures q)) x r d →
      (o : Option ℕ) → GotoIs g t q x o → (n : ℕ) × (n < length t.closures) × IsCore g (x ∷ p)
      (set_at t.closures n)
  goto_found p x q r d h c m None z = absurd (z r d m)
  goto_found p x q r d h c m (Some n) z = (
    n,
    z.0,
    core_goto g f p (set_at t.closures q) x (set_at t.kernels n) (set_at t.closures n) c
        z.1 (are.each n z.0).closure,
  )

  pub every : (p : List ℕ) (i : Item) → InCore g p i → (q : ℕ) × (q < length t.closures) ×
      IsCore g p (set_at t.closures q)
  every [] i c = (
    0,
    are.some,
    core_start g f (set_at t.closures 0)
        (subst (λ k. IsClosure g k (set_at t.closures 0)) are.first (are.each 0 are.some).closure),
  )
  every (x ∷ p) i c =
      let s = source (live_from_valid c.1) in
      let j : Item = record { rule = s.rule; dot = s.dot } in
      let v = valid_from_live g f p s.rule s.dot s.item in
      let q = every p j v in
      goto_found p x q.0 s.rule (suc s.dot) q.1 q.2 (moved ((q.2 j).1 v) s.next s.inside) (to q.0 x)
      (gotos q.0 x q.1 (symbol p s.rule s.dot x s.rest v s.next))

closed_moved : {g : ContextFree} {K : ℕ → ℕ → Type 0} {r d : ℕ} → Closure g K r d → 0 < d → K r d
closed_moved (given c) h = c
closed_moved (opened c e l) h = absurd (omega arith)

module _ (g : ContextFree) (t : StateLists) (are : AreStates g t) (p : List ℕ) where
  -- an item with its dot past the start is in the kernel of each state with the same items
  kernel_of : (q n : ℕ) → q < length t.closures → n < length t.closures →
      IsCore g p (set_at t.closures q) → IsCore g p (set_at t.closures n) → (i : Item) → 0 < i.dot →
      Contains (set_at t.kernels q) i → Contains (set_at t.kernels n) i
  kernel_of q n a b c e i h k =
      closed_moved (((are.each n b).closure i).0
      ((e i).1 ((c i).0 (((are.each q a).closure i).1 (given k))))) h

  -- no state but the first has the items of the first
  not_first : (n : ℕ) → 0 < n → n < length t.closures → IsCore g p (set_at t.closures 0) →
      IsCore g p (set_at t.closures n) → ⊥
  not_first n l b c e =
      let i : Item = get_or (set_at t.kernels n) 0 start_item in
      let k : Contains (set_at t.kernels n) i = Contains-get_or (set_at t.kernels n) 0 start_item
      (are.each n b).filled in
      let h : 0 < i.dot = are.moved n l b i k in
      let z : Contains {X = Item} (start_item ∷ []) i = subst (λ u. Contains u i) are.first
      (kernel_of n 0 b are.some e c i h k) in
      begin_dot i (only z.0 i.rule i.dot z.1 z.2) h
    where
      begin_zero : {r d : ℕ} → Begin r d → 0 < d → ⊥
      begin_zero begin h = omega arith

      begin_dot : (i : Item) → Begin i.rule i.dot → 0 < i.dot → ⊥
      begin_dot i b h = begin_zero b h

  pub once : (q n : ℕ) → q < length t.closures → n < length t.closures →
      IsCore g p (set_at t.closures q) → IsCore g p (set_at t.closures n) → q ≡ n
  once q n a b c e = go (eq-zero-or-pos q) (eq-zero-or-pos n)
    where
      go : (q ≡ 0) ⊎ (0 < q) → (n ≡ 0) ⊎ (0 < n) → q ≡ n
      go (inl x) (inl y) = x ∙ sym y
      go (inl x) (inr y) = absurd
          (not_first n y b (subst (λ m. IsCore g p (set_at t.closures m)) x c) e)
      go (inr x) (inl y) = absurd
          (not_first q x a (subst (λ m. IsCore g p (set_at t.closures m)) y e) c)
      go (inr x) (inr y) = are.distinct q n a b (same_ascending (set_at t.kernels q)
          (set_at t.kernels n) (are.each q a).kernel_order (are.each n b).kernel_order (λ i. (
            (λ k. kernel_of q n a b c e i (are.moved q x a i k) k),
            (λ k. kernel_of n q b a e c i (are.moved n y b i k) k),
          )))

-- what moves from a state may become one
pub may_join : (g : ContextFree) → WellFormed g → (k0 v : List Item) (x : ℕ) (k : List Item) →
    IsState g k0 v → IsAdvanced g v x k → (p : List ℕ) ×
    ((w : List Item) → IsClosure g k w → IsCore g p w)
may_join g f k0 v x k s a = (x ∷ s.core.0, λ w h. core_goto g f s.core.0 v x k w s.core.1 a h)

pub moved_dot : (g : ContextFree) (v : List Item) (x : ℕ) (k : List Item) → IsAdvanced g v x k →
    (i : Item) → Contains k i → 0 < i.dot
moved_dot g v x k a i c = go ((a i).0 c)
  where
    go : {r d : ℕ} → Kernel g (ItemsOf v) x r d → 0 < d
    go (moved m e n) = omega arith
