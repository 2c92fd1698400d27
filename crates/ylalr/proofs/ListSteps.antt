-- Lists of items: one push, one item of a kernel, and the whole closure.
use Rattle.std.proofs.Common.{ℕ, zero, suc, ◌≡◌, ◌<◌, ◌≤◌, ◌+◌, ◌⊎◌, ◌↔◌, List, [], ◌∷◌, ◌++◌}
use Rattle.std.proofs.Common.{length, drop, get_or, refl, sym, ◌∙◌, ap, subst, inl, inr, arith}
use Rattle.std.specs.List.{All, Contains}
use Rattle.std.proofs.lemmas.List.{get_or_read}
use Rattle.std.proofs.lemmas.List.Elements.{All-push, All-contains, Contains-get_or, Contains-push}
use Rattle.std.proofs.lemmas.List.Elements.{Contains-push_cases, Contains-append_left}
use Rattle.std.proofs.lemmas.List.Quantifiers.{all_pairs_push}
use Rattle.ysymbols.specs.Grammar.{ContextFree, body_of}
use Rattle.ylalr.specs.declared.items.Item.{Item}
use Rattle.ybitsets.specs.Rows.{BitRows, Holds, AddsFrom}
use Rattle.ybitsets.proofs.Turn.{same_default}
use Rattle.ylalr.specs.Sets.{Before, IsAscending, InRange, ItemsOf, Closure, given, IsClosure}
use Rattle.ylalr.specs.Sets.{LeadsTo, FirstRule}
use Rattle.ylalr.proofs.ClosureSteps.{closed_cases, closed_from_opened}
use Rattle.std.proofs.Math.Nat.{eq-zero-or-pos}
use Rattle.std.proofs.lemmas.Bool.{cases_lt}

pub before_then : (i j k : Item) → Before i j → Before j k → Before i k
before_then i j k (inl x) (inl y) = inl (omega arith)
before_then i j k (inl x) (inr y) = inl (let z = y.0 in omega arith)
before_then i j k (inr x) (inl y) = inl (let z = x.0 in omega arith)
before_then i j k (inr x) (inr y) = inr (x.0 ∙ y.0, (let a = x.1 in let b = y.1 in omega arith))

pub all_of : {X : Type 0} (P : X → Type 0) (xs : List X) → ((x : X) → Contains xs x → P x) →
    All P xs
all_of P xs f k d h = f (get_or xs k d) (Contains-get_or xs k d h)

pub at_of : {X : Type 0} (P : X → Type 0) (xs : List X) (x : X) → All P xs → Contains xs x → P x
at_of P xs x a c = All-contains P xs x a c

-- the item of a place
abbrev pub item_at : List Item → ℕ → Item
item_at xs k = get_or xs k (record { rule = 0; dot = 0 })

-- it is there whatever the default
pub item_there : (xs : List Item) (k : ℕ) → k < length xs →
    item_at xs k ≡ get_or xs k (item_at xs k)
item_there xs k h = same_default xs k (record { rule = 0; dot = 0 }) (item_at xs k) h

pub push_ascending : (xs : List Item) (p : Item) → IsAscending xs → All (λ i. Before i p) xs →
    IsAscending (xs ++ p ∷ [])
push_ascending xs p a b = all_pairs_push Before xs p a b

pub contains_push : (xs : List Item) (p i : Item) → Contains (xs ++ p ∷ []) i ↔ (Contains xs i ⊎
    (i ≡ p))
contains_push xs p i = (down, up)
  where
    down : Contains (xs ++ p ∷ []) i → Contains xs i ⊎ (i ≡ p)
    down c = go (Contains-push_cases xs p i c)
      where
        go : Contains xs i ⊎ (p ≡ i) → Contains xs i ⊎ (i ≡ p)
        go (inl x) = inl x
        go (inr e) = inr (sym e)

    up : Contains xs i ⊎ (i ≡ p) → Contains (xs ++ p ∷ []) i
    up (inl x) = Contains-append_left xs (p ∷ []) i x
    up (inr e) = subst (λ j. Contains (xs ++ p ∷ []) j) (sym e) (Contains-push xs p)

abbrev pub first_of : ℕ → Item
first_of r = record { rule = r; dot = 0 }

-- the first items of the wanted rules from `from` up to r
pub record Opening (w : BitRows) (from r : ℕ) (old new : List Item) : Type 0 where
  pub ascending : IsAscending new
  pub below : All (λ i. i.rule < r) new
  pub exact : (i : Item) → Contains new i ↔ (Contains old i ⊎
      ((i.dot ≡ 0) × (from ≤ i.rule) × (i.rule < r) × Holds w 0 i.rule))

pub opening_skip : (w : BitRows) (from r n : ℕ) (old new : List Item) → r ≤ n →
    ((k : ℕ) → r ≤ k → k < n → Holds w 0 k → ⊥) → Opening w from r old new →
    Opening w from n old new
opening_skip w from r n old new le none o = record {
  ascending = o.ascending;
  below = λ k d h. (let l = o.below k d h in omega arith);
  exact = λ i. ((λ c. wider i ((o.exact i).0 c)), λ c. (o.exact i).1 (narrow i c));
}
  where
    wider : (i : Item) → Contains old i ⊎
        ((i.dot ≡ 0) × (from ≤ i.rule) × (i.rule < r) × Holds w 0 i.rule) → Contains old i ⊎
        ((i.dot ≡ 0) × (from ≤ i.rule) × (i.rule < n) × Holds w 0 i.rule)
    wider i (inl c) = inl c
    wider i (inr c) = inr (c.0, c.1, (let l = c.2 in omega arith), c.3)

    narrow : (i : Item) → Contains old i ⊎
        ((i.dot ≡ 0) × (from ≤ i.rule) × (i.rule < n) × Holds w 0 i.rule) → Contains old i ⊎
        ((i.dot ≡ 0) × (from ≤ i.rule) × (i.rule < r) × Holds w 0 i.rule)
    narrow i (inl c) = inl c
    narrow i (inr c) = go (cases_lt i.rule r)
      where
        go : (i.rule < r) ⊎ (r ≤ i.rule) → Contains old i ⊎
            ((i.dot ≡ 0) × (from ≤ i.rule) × (i.rule < r) × Holds w 0 i.rule)
        go (inl l) = inr (c.0, c.1, l, c.3)
        go (inr l) = absurd (none i.rule l c.2 c.3)

pub opening_push : (w : BitRows) (from r : ℕ) (old new more : List Item) → from ≤ r → Holds w 0 r →
    Opening w from r old new → more ≡ new ++ first_of r ∷ [] → Opening w from (r + 1) old more
opening_push w from r old new more l h o e = subst (λ xs. Opening w from (r + 1) old xs) (sym e)
    (record {
      ascending = push_ascending new (first_of r) o.ascending (λ k d x. inl (o.below k d x));
      below = All-push (λ i. i.rule < r + 1) new (first_of r) (λ k d x.
          (let z = o.below k d x in omega arith)) (omega arith);
      exact = λ i. (down i, up i);
    })
  where
    down : (i : Item) → Contains (new ++ first_of r ∷ []) i → Contains old i ⊎
        ((i.dot ≡ 0) × (from ≤ i.rule) × (i.rule < r + 1) × Holds w 0 i.rule)
    down i c = go ((contains_push new (first_of r) i).0 c)
      where
        old_one : Contains old i ⊎ ((i.dot ≡ 0) × (from ≤ i.rule) × (i.rule < r) × Holds w 0 i.rule)
            → Contains old i ⊎ ((i.dot ≡ 0) × (from ≤ i.rule) × (i.rule < r + 1) × Holds w 0 i.rule)
        old_one (inl x) = inl x
        old_one (inr x) = inr (x.0, x.1, (let z = x.2 in omega arith), x.3)

        go : Contains new i ⊎ (i ≡ first_of r) → Contains old i ⊎
            ((i.dot ≡ 0) × (from ≤ i.rule) × (i.rule < r + 1) × Holds w 0 i.rule)
        go (inl x) = old_one ((o.exact i).0 x)
        go (inr q) =
            let er : i.rule ≡ r = ap (λ (t : Item). t.rule) q in
            inr (
              ap (λ (t : Item). t.dot) q,
              omega arith,
              omega arith,
              subst (λ t. Holds w 0 t)
                  (sym er) h,
            )

    up : (i : Item) → Contains old i ⊎ ((i.dot ≡ 0) × (from ≤ i.rule) × (i.rule < r + 1) ×
        Holds w 0 i.rule) → Contains (new ++ first_of r ∷ []) i
    up i (inl x) = (contains_push new (first_of r) i).1 (inl ((o.exact i).1 (inl x)))
    up i (inr x) = go (cases_lt i.rule r)
      where
        go : (i.rule < r) ⊎ (r ≤ i.rule) → Contains (new ++ first_of r ∷ []) i
        go (inl z) = (contains_push new (first_of r) i).1
            (inl ((o.exact i).1 (inr (x.0, x.1, z, x.3))))
        go (inr z) =
            let er : i.rule ≡ r = (let k = x.2 in omega arith) in
            let q : i ≡ first_of r = (λ j. record { rule = er j; dot = x.0 j }) in
            (contains_push new (first_of r) i).1 (inr q)

-- the items of the kernel below n, and the first items of the wanted rules below `at`
pub record Merging (w : BitRows) (kernel : List Item) (n at : ℕ) (out : List Item) : Type 0 where
  pub ascending : IsAscending out
  pub below : All (λ i. i.rule < at) out
  pub sound : (i : Item) → Contains out i → Contains kernel i ⊎ ((i.dot ≡ 0) × Holds w 0 i.rule)
  pub items : (k : ℕ) (d : Item) → k < n → Contains out (get_or kernel k d)
  pub opened : (r : ℕ) → r < at → Holds w 0 r → Contains out (record { rule = r; dot = 0 })
  pub rest : (k : ℕ) (d : Item) → n ≤ k → k < length kernel →
      All (λ i. Before i (get_or kernel k d)) out
  pub order : (k : ℕ) (d : Item) → n ≤ k → k < length kernel → at ≤ (get_or kernel k d).rule + 1
  pub order_first : (k : ℕ) (d : Item) → n ≤ k → k < length kernel → (get_or kernel k d).dot ≡ 0 →
      at ≤ (get_or kernel k d).rule

-- how far the opened rules go before the item p
pub record Until (p : Item) (to : ℕ) : Type 0 where
  pub first : p.dot ≡ 0 → to ≡ p.rule
  pub later : 0 < p.dot → to ≡ p.rule + 1

-- an opened item is before p
opened_before : (p i : Item) (to : ℕ) → Until p to → i.dot ≡ 0 → i.rule < to → Before i p
opened_before p i to u z l = go (eq-zero-or-pos p.dot)
  where
    go : (p.dot ≡ 0) ⊎ (0 < p.dot) → Before i p
    go (inl y) = inl (let b = u.first y in omega arith)
    go (inr y) = step (cases_lt i.rule p.rule)
      where
        step : (i.rule < p.rule) ⊎ (p.rule ≤ i.rule) → Before i p
        step (inl k) = inl k
        step (inr k) = let b = u.later y in inr (omega arith, omega arith)

pub merge_step : (w : BitRows) (kernel out more : List Item) (n at to : ℕ) (p : Item) →
    IsAscending kernel → Merging w kernel n at out → n < length kernel → p ≡ get_or kernel n p →
    Until p to → Opening w at to out more → Merging w kernel (n + 1) (p.rule + 1) (more ++ p ∷ [])
merge_step w kernel out more n at to p asc m h e u o = record {
  ascending = push_ascending more p o.ascending (all_of (λ i. Before i p) more before_p);
  below = All-push (λ i. i.rule < p.rule + 1) more p (all_of (λ i. i.rule < p.rule + 1) more
      (λ i c. rule_le (before_p i c))) (omega arith);
  sound = sound;
  items = items;
  opened = opened;
  rest = rest;
  order = λ k d l z. (let b = ordered k d l z in order b);
  order_first = λ k d l z q. (let b = ordered k d l z in order_first b q);
}
  where
    from_out : (i : Item) → Contains out i → Before i p
    from_out i c = subst (λ t. Before i t) (sym e) (at_of (λ j. Before j (get_or kernel n p)) out i
        (m.rest n p (omega arith) h) c)

    before_p : (i : Item) → Contains more i → Before i p
    before_p i c = go ((o.exact i).0 c)
      where
        go : Contains out i ⊎ ((i.dot ≡ 0) × (at ≤ i.rule) × (i.rule < to) × Holds w 0 i.rule) →
            Before i p
        go (inl x) = from_out i x
        go (inr x) = opened_before p i to u x.0 x.2

    rule_le : {i : Item} → Before i p → i.rule < p.rule + 1
    rule_le (inl x) = omega arith
    rule_le (inr x) = let z = x.0 in omega arith

    ordered : (k : ℕ) (d : Item) → n + 1 ≤ k → k < length kernel → Before p (get_or kernel k d)
    ordered k d l z = subst (λ t. Before t (get_or kernel k d)) (sym (get_or_read kernel n p h e d))
        (asc n k d (omega arith) z)

    order : {q : Item} → Before p q → p.rule + 1 ≤ q.rule + 1
    order (inl x) = omega arith
    order (inr x) = let z = x.0 in omega arith

    order_first : {q : Item} → Before p q → q.dot ≡ 0 → p.rule + 1 ≤ q.rule
    order_first (inl x) z = omega arith
    order_first (inr x) z = absurd (let y = x.1 in omega arith)

    sound : (i : Item) → Contains (more ++ p ∷ []) i → Contains kernel i ⊎
        ((i.dot ≡ 0) × Holds w 0 i.rule)
    sound i c = go ((contains_push more p i).0 c)
      where
        old : Contains out i ⊎ ((i.dot ≡ 0) × (at ≤ i.rule) × (i.rule < to) × Holds w 0 i.rule) →
            Contains kernel i ⊎ ((i.dot ≡ 0) × Holds w 0 i.rule)
        old (inl x) = m.sound i x
        old (inr x) = inr (x.0, x.3)

        go : Contains more i ⊎ (i ≡ p) → Contains kernel i ⊎ ((i.dot ≡ 0) × Holds w 0 i.rule)
        go (inl x) = old ((o.exact i).0 x)
        go (inr q) = inl (subst (λ t. Contains kernel t) (sym (q ∙ e))
            (Contains-get_or kernel n p h))

    items : (k : ℕ) (d : Item) → k < n + 1 → Contains (more ++ p ∷ []) (get_or kernel k d)
    items k d l = go (cases_lt k n)
      where
        go : (k < n) ⊎ (n ≤ k) → Contains (more ++ p ∷ []) (get_or kernel k d)
        go (inl z) = (contains_push more p (get_or kernel k d)).1
            (inl ((o.exact (get_or kernel k d)).1 (inl (m.items k d z))))
        go (inr z) =
            let q : k ≡ n = omega arith in
            (contains_push more p (get_or kernel k d)).1
            (inr (ap (λ t. get_or kernel t d) q ∙ sym (get_or_read kernel n p h e d)))

    opened : (r : ℕ) → r < p.rule + 1 → Holds w 0 r → Contains (more ++ p ∷ [])
        (record { rule = r; dot = 0 })
    opened r l x = go (cases_lt r at) (cases_lt r to)
      where
        last : (p.dot ≡ 0) ⊎ (0 < p.dot) → to ≤ r → Contains (more ++ p ∷ [])
            (record { rule = r; dot = 0 })
        last (inl z) y =
            let er : p.rule ≡ r = (let b = u.first z in omega arith) in
            let q : ◌≡◌ {A = Item} (record { rule = r; dot = 0 }) p =
            (λ j. record { rule = sym er j; dot = sym z j }) in
            (contains_push more p (record { rule = r; dot = 0 })).1 (inr q)
        last (inr z) y = absurd (let b = u.later z in omega arith)

        go : (r < at) ⊎ (at ≤ r) → (r < to) ⊎ (to ≤ r) → Contains (more ++ p ∷ [])
            (record { rule = r; dot = 0 })
        go (inl y) z = (contains_push more p (record { rule = r; dot = 0 })).1
            (inl ((o.exact (record { rule = r; dot = 0 })).1 (inl (m.opened r y x))))
        go (inr y) (inl z) = (contains_push more p (record { rule = r; dot = 0 })).1
            (inl ((o.exact (record { rule = r; dot = 0 })).1 (inr (refl, y, z, x))))
        go (inr y) (inr z) = last (eq-zero-or-pos p.dot) z

    rest : (k : ℕ) (d : Item) → n + 1 ≤ k → k < length kernel →
        All (λ i. Before i (get_or kernel k d)) (more ++ p ∷ [])
    rest k d l z = All-push (λ i. Before i (get_or kernel k d)) more p
        (all_of (λ i. Before i (get_or kernel k d)) more (λ i c. before_then i p (get_or kernel k d)
        (before_p i c) (ordered k d l z))) (ordered k d l z)

-- the whole list
pub merged : (w : BitRows) (kernel out more : List Item) (n at rules : ℕ) → n ≡ length kernel →
    w.width ≡ rules → Merging w kernel n at out → Opening w at rules out more →
    (i : Item) → Contains more i ↔ (Contains kernel i ⊎ ((i.dot ≡ 0) × Holds w 0 i.rule))
merged w kernel out more n at rules en ew m o i = (down, up)
  where
    down : Contains more i → Contains kernel i ⊎ ((i.dot ≡ 0) × Holds w 0 i.rule)
    down c = go ((o.exact i).0 c)
      where
        go : Contains out i ⊎ ((i.dot ≡ 0) × (at ≤ i.rule) × (i.rule < rules) × Holds w 0 i.rule) →
            Contains kernel i ⊎ ((i.dot ≡ 0) × Holds w 0 i.rule)
        go (inl x) = m.sound i x
        go (inr x) = inr (x.0, x.3)

    up : Contains kernel i ⊎ ((i.dot ≡ 0) × Holds w 0 i.rule) → Contains more i
    up (inl c) = (o.exact i).1
        (inl (subst (λ t. Contains out t) c.2 (m.items c.0 i (subst (λ t. c.0 < t) (sym en) c.1))))
    up (inr x) = go (cases_lt i.rule at)
      where
        q : ◌≡◌ {A = Item} (record { rule = i.rule; dot = 0 }) i
        q = λ j. record { rule = i.rule; dot = sym x.0 j }

        go : (i.rule < at) ⊎ (at ≤ i.rule) → Contains more i
        go (inl l) = (o.exact i).1 (inl (subst (λ t. Contains out t) q (m.opened i.rule l x.1)))
        go (inr l) = (o.exact i).1 (inr (x.0, l, subst (λ t. i.rule < t) ew x.1.column, x.1))

-- with the rules that the kernel leads to, it is the closure
pub closure_whole : (g : ContextFree) (w : BitRows) (kernel out : List Item) →
    ((r : ℕ) → Holds w 0 r ↔ LeadsTo g (ItemsOf kernel) r) →
    ((i : Item) → Contains out i ↔ (Contains kernel i ⊎ ((i.dot ≡ 0) × Holds w 0 i.rule))) →
    IsClosure g kernel out
closure_whole g w kernel out a b i = (down, up)
  where
    down : Contains out i → Closure g (ItemsOf kernel) i.rule i.dot
    down c = go ((b i).0 c)
      where
        go : Contains kernel i ⊎ ((i.dot ≡ 0) × Holds w 0 i.rule) →
            Closure g (ItemsOf kernel) i.rule
            i.dot
        go (inl x) = given x
        go (inr x) = subst (λ t. Closure g (ItemsOf kernel) i.rule t) (sym x.0)
            (closed_from_opened i.rule ((a i.rule).0 x.1))

    up : Closure g (ItemsOf kernel) i.rule i.dot → Contains out i
    up c = go (closed_cases c)
      where
        go : ItemsOf kernel i.rule i.dot ⊎ ((i.dot ≡ 0) × LeadsTo g (ItemsOf kernel) i.rule) →
            Contains out i
        go (inl x) = (b i).1 (inl x)
        go (inr x) = (b i).1 (inr (x.0, (a i.rule).1 x.1))

pub closure_range : (g : ContextFree) (w : BitRows) (kernel out : List Item) →
    w.width ≡ length g.rules → InRange g kernel →
    ((i : Item) → Contains out i ↔ (Contains kernel i ⊎ ((i.dot ≡ 0) × Holds w 0 i.rule))) →
    InRange g out
closure_range g w kernel out e f b = all_of (λ i. (i.rule < length g.rules) ×
    (i.dot ≤ length (body_of g i.rule))) out each
  where
    each : (i : Item) → Contains out i → (i.rule < length g.rules) ×
        (i.dot ≤ length (body_of g i.rule))
    each i c = go ((b i).0 c)
      where
        go : Contains kernel i ⊎ ((i.dot ≡ 0) × Holds w 0 i.rule) → (i.rule < length g.rules) ×
            (i.dot ≤ length (body_of g i.rule))
        go (inl x) = at_of (λ i. (i.rule < length g.rules) × (i.dot ≤ length (body_of g i.rule)))
            kernel i f x
        go (inr x) = (subst (λ t. i.rule < t) e x.1.column, (let z = x.0 in omega arith))

-- the rules that the items of the kernel below n lead to
pub record Wanting (g : ContextFree) (kernel : List Item) (n : ℕ) (w : BitRows) : Type 0 where
  pub sound : (r : ℕ) → Holds w 0 r → LeadsTo g (ItemsOf kernel) r
  pub every : (k : ℕ) (d : Item) (s r : ℕ) (y : List ℕ) → k < n → drop (get_or kernel k d).dot
      (body_of g (get_or kernel k d).rule) ≡ s ∷ y → FirstRule g s r → Holds w 0 r

nil_cons : (s : ℕ) (x y : List ℕ) → x ≡ [] → x ≡ s ∷ y → ⊥
nil_cons s x y e f = cc

drop_all : (n : ℕ) (x : List ℕ) → length x ≤ n → drop n x ≡ []
drop_all zero [] h = refl
drop_all (suc n) [] h = refl
drop_all zero (s ∷ x) h = absurd (omega arith)
drop_all (suc n) (s ∷ x) h = drop_all n x (omega arith)

pub wanting_end : (g : ContextFree) (kernel : List Item) (n : ℕ) (w : BitRows) (p : Item) →
    n < length kernel → p ≡ get_or kernel n p → length (body_of g p.rule) ≤ p.dot →
    Wanting g kernel n w → Wanting g kernel (n + 1) w
wanting_end g kernel n w p h e z v = record { sound = v.sound; every = every }
  where
    every : (k : ℕ) (d : Item) (s r : ℕ) (y : List ℕ) → k < n + 1 → drop (get_or kernel k d).dot
        (body_of g (get_or kernel k d).rule) ≡ s ∷ y → FirstRule g s r → Holds w 0 r
    every k d s r y l q o = go (cases_lt k n)
      where
        go : (k < n) ⊎ (n ≤ k) → Holds w 0 r
        go (inl x) = v.every k d s r y x q o
        go (inr x) =
            let ek : k ≡ n = omega arith in
            let ep : get_or kernel k d ≡ p = ap (λ t. get_or kernel t d) ek ∙ sym
            (get_or_read kernel n p h e d) in
            absurd (nil_cons s (drop p.dot (body_of g p.rule)) y
            (drop_all p.dot (body_of g p.rule) z)
            (subst (λ (t : Item). drop t.dot (body_of g t.rule) ≡ s ∷ y) ep q))

heads : (s t : ℕ) (x y z : List ℕ) → z ≡ s ∷ x → z ≡ t ∷ y → s ≡ t
heads s t x y z e f = cc

pub wanting_more : (g : ContextFree) (kernel : List Item) (n : ℕ) (w o opens : BitRows) (p : Item)
    (t : ℕ) (x : List ℕ) → ((s r : ℕ) → Holds opens s r ↔ FirstRule g s r) → n < length kernel →
    p ≡ get_or kernel n p →
    drop p.dot (body_of g p.rule) ≡ t ∷ x → AddsFrom w o 0 opens t → Wanting g kernel n w →
    Wanting g kernel (n + 1) o
wanting_more g kernel n w o opens p t x io h e q a v = record { sound = sound; every = every }
  where
    sound : (r : ℕ) → Holds o 0 r → LeadsTo g (ItemsOf kernel) r
    sound r z = go ((a 0 r).0 z)
      where
        go : Holds w 0 r ⊎ ((◌≡◌ {A = ℕ} 0 0) × Holds opens t r) → LeadsTo g (ItemsOf kernel) r
        go (inl y) = v.sound r y
        go (inr y) = record {
          rule = p.rule;
          dot = p.dot;
          symbol = t;
          rest = x;
          item =
              (n, h, sym e);
          next = q;
          first = (io t r).0 y.1;
        }

    every : (k : ℕ) (d : Item) (s r : ℕ) (y : List ℕ) → k < n + 1 → drop (get_or kernel k d).dot
        (body_of g (get_or kernel k d).rule) ≡ s ∷ y → FirstRule g s r → Holds o 0 r
    every k d s r y l f b = go (cases_lt k n)
      where
        go : (k < n) ⊎ (n ≤ k) → Holds o 0 r
        go (inl z) = (a 0 r).1 (inl (v.every k d s r y z f b))
        go (inr z) =
            let ek : k ≡ n = omega arith in
            let ep : get_or kernel k d ≡ p = ap (λ u. get_or kernel u d) ek ∙ sym
            (get_or_read kernel n p h e d) in
            let es : t ≡ s = heads t s x y (drop p.dot (body_of g p.rule)) q
            (subst (λ (u : Item). drop u.dot (body_of g u.rule) ≡ s ∷ y) ep f) in
            (a 0 r).1 (inr (refl, (io t r).1 (subst (λ u. FirstRule g u r) (sym es) b)))
