-- The holders of the numbers, and the least numbers that are free.
use Rattle.std.proofs.Common.{ℕ, zero, suc, Bool, true, false, ◌≡◌, ◌≢◌, ◌<◌, ◌≤◌, ◌+◌, ◌⊎◌}
use Rattle.std.proofs.Common.{inl, inr, max, List, [], ◌∷◌, ◌++◌, length, Option, Some, None, refl}
use Rattle.std.proofs.Common.{sym, ◌∙◌, ap, subst, arith, get_or, get_or-set_same, get_or-set_other}
use Rattle.std.proofs.Common.{length-set, length-append, cond, ◌==◌}
use Rattle.std.proofs.Math.ListN.{set}
use Rattle.std.specs.List.{slice_get}
use Rattle.std.proofs.lemmas.Bool.Decides.{nat_tests}
use Rattle.std.proofs.lemmas.Option.{slice_get_within, slice_get-get_or}
use Rattle.ygrammar.specs.declared.holders.Holders.{Holders}
use Rattle.ygrammar.specs.declared.holders.Holders.TheVariants.{Nobody, One, Several}
use Rattle.ysymbols.specs.Grammar.{number_bound}
use Rattle.ydeclarations.specs.Mistakes.{Clashes}
use Rattle.ygrammar.specs.Numbers.{AreHolders, AreNumbers, IsHolders, IsLeast, IsOwn}
use Rattle.ygrammar.specs.Numbers.{is_held, with_holder}
use Rattle.ysymbols.proofs.NameSteps.{false_true}
use Rattle.std.proofs.lemmas.Bool.{cases_eq}
use Rattle.ysymbols.proofs.Numbers.{below_or_last}

-- Of each number the holders among the first i tokens.
pub record Holding (count : ℕ) (own : List (Option ℕ)) (table : List Holders) (i : ℕ) : Type 0 where
  pub each : length table ≡ count
  pub exact : (m : ℕ) → IsHolders (get_or table m Nobody)
      (λ k. (k < i) × (slice_get own k ≡ Some (Some m)))

pub some_one : {a b : ℕ} → (x y : Option ℕ) → x ≡ Some a → y ≡ Some b → x ≡ y → a ≡ b
some_one {a = a} {b = b} x y e f h = ap (λ (o : Option ℕ). elim o [ None ↦ a | Some n ↦ n ])
    (sym e ∙ h ∙ f)

one_number : (own : List (Option ℕ)) (i a b : ℕ) → slice_get own i ≡ Some (Some a) →
    slice_get own i ≡ Some (Some b) → a ≡ b
one_number own i a b e f =
    ap (λ (o : Option (Option ℕ)). elim o [ None ↦ a | Some x ↦ elim x [ None ↦ a | Some n ↦ n ] ])
    (sym e ∙ f)

not_both : (own : List (Option ℕ)) (i a : ℕ) → slice_get own i ≡ Some None → slice_get own i ≡ Some
    (Some a) → ⊥
not_both own i a e f = false_true
    (ap (λ (o : Option (Option ℕ)).
    elim o [ None ↦ false | Some x ↦ elim x [ None ↦ false | Some n ↦ true ] ]) (sym e ∙ f))

-- ---- holders

-- the same tokens hold it
pub same_holders : (h : Holders) (P Q : ℕ → Type 0) → ((k : ℕ) → P k → Q k) →
    ((k : ℕ) → Q k → P k) → IsHolders h P → IsHolders h Q
same_holders Nobody P Q f g s = λ k q. s k (g k q)
same_holders (One a) P Q f g s = (f a s.0, λ k q. s.1 k (g k q))
same_holders Several P Q f g (j, k, d, p, q) = (j, k, d, f j p, f k q)

-- one more token holds it
pub one_more : (h : Holders) (i : ℕ) (P Q : ℕ → Type 0) → ((k : ℕ) → P k → Q k) → Q i →
    ((k : ℕ) → Q k → P k ⊎ (k ≡ i)) → IsHolders h P → IsHolders (with_holder h i) Q
one_more Nobody i P Q f here g s = (here, λ j q. only j (g j q))
  where
    only : (j : ℕ) → P j ⊎ (j ≡ i) → j ≡ i
    only j (inl p) = absurd (s j p)
    only j (inr e) = e
one_more (One a) i P Q f here g s = go (a == i) refl
  where
    same : (x y : ℕ) → (x == y) ≡ true → x ≡ y
    same x y h = grind (arith, nat_tests)

    other : (x y : ℕ) → (x == y) ≡ false → x ≢ y
    other x y h = grind (arith, nat_tests)

    only : a ≡ i → (j : ℕ) → P j ⊎ (j ≡ i) → j ≡ a
    only e j (inl p) = s.1 j p
    only e j (inr d) = d ∙ sym e

    go : (b : Bool) → (a == i) ≡ b → IsHolders (cond (a == i) (One a) Several) Q
    go true e = subst (λ b. IsHolders (cond b (One a) Several) Q) (sym e)
        (f a s.0, λ j q. only (same a i e) j (g j q))
    go false e = subst (λ b. IsHolders (cond b (One a) Several) Q) (sym e)
        (a, i, other a i e, f a s.0, here)
one_more Several i P Q f here g (j, k, d, p, q) = (j, k, d, f j p, f k q)

-- a number that is held has a holder
pub holder_of : (h : Holders) (P : ℕ → Type 0) → is_held h ≡ true → IsHolders h P → (k : ℕ) × P k
holder_of Nobody P e s = absurd (false_true e)
holder_of (One k) P e s = (k, s.0)
holder_of Several P e (j, k, d, p, q) = (j, p)

-- a number that has a holder is held
pub held_by : (h : Holders) (P : ℕ → Type 0) (k : ℕ) → P k → IsHolders h P → is_held h ≡ true
held_by Nobody P k p s = absurd (s k p)
held_by (One j) P k p s = refl
held_by Several P k p s = refl

-- where two hold it, several do
pub several_hold : (h : Holders) (P : ℕ → Type 0) (j k : ℕ) → j ≢ k → P j → P k → IsHolders h P →
    h ≡ Several
several_hold Nobody P j k d p q s = absurd (s j p)
several_hold (One a) P j k d p q s = absurd (d (s.1 j p ∙ sym (s.1 k q)))
several_hold Several P j k d p q s = refl

pub holders_skip : (count : ℕ) (own : List (Option ℕ)) (table : List Holders) (i : ℕ) →
    slice_get own i ≡ Some None → Holding count own table i → Holding count own table (i + 1)
holders_skip count own table i e s = record {
  each = s.each;
  exact = λ m. same_holders (get_or table m Nobody) _ _
      (λ k p. let l = p.0 in (omega arith, p.1)) (λ k p. back m k (below_or_last k i p.0) p.1) (s.exact
      m);
}
  where
    back : (m k : ℕ) → (k < i) ⊎ (k ≡ i) → slice_get own k ≡ Some (Some m) →
        (k < i) × (slice_get own k ≡ Some (Some m))
    back m k (inl l) q = (l, q)
    back m k (inr d) q = absurd (not_both own i m e
        (subst (λ j. slice_get own j ≡ Some (Some m)) d q))

pub holders_more : (count : ℕ) (own : List (Option ℕ)) (table : List Holders) (i n : ℕ) →
    slice_get own i ≡ Some (Some n) → n < length table → Holding count own table i →
    Holding count own (set table n (with_holder (get_or table n Nobody) i)) (i + 1)
holders_more count own table i n e within s = record {
  each = length-set table n (with_holder (get_or table n Nobody) i) ∙ s.each;
  exact = λ m. at m (cases_eq m n);
}
  where
    more : (m k : ℕ) → (k < i) × (slice_get own k ≡ Some (Some m)) →
        (k < i + 1) × (slice_get own k ≡ Some (Some m))
    more m k p = let l = p.0 in (omega arith, p.1)

    split : (k : ℕ) → (k < i) ⊎ (k ≡ i) → slice_get own k ≡ Some (Some n) →
        ((k < i) × (slice_get own k ≡ Some (Some n))) ⊎ (k ≡ i)
    split k (inl l) q = inl (l, q)
    split k (inr d) q = inr d

    before : (m k : ℕ) → m ≢ n → (k < i) ⊎ (k ≡ i) → slice_get own k ≡ Some (Some m) →
        (k < i) × (slice_get own k ≡ Some (Some m))
    before m k d (inl l) q = (l, q)
    before m k d (inr j) q =
        absurd (d (one_number own i m n (subst (λ a. slice_get own a ≡ Some (Some m)) j q) e))

    at : (m : ℕ) → (m ≡ n) ⊎ (m ≢ n) →
        IsHolders (get_or (set table n (with_holder (get_or table n Nobody) i)) m Nobody)
        (λ k. (k < i + 1) × (slice_get own k ≡ Some (Some m)))
    at m (inl d) =
        subst (λ a. IsHolders (get_or (set table n (with_holder (get_or table n Nobody) i)) a
        Nobody)
        (λ k. (k < i + 1) × (slice_get own k ≡ Some (Some a)))) (sym d)
        (subst (λ h. IsHolders h (λ k. (k < i + 1) × (slice_get own k ≡ Some (Some n))))
        (sym (get_or-set_same table n (with_holder (get_or table n Nobody) i) Nobody within))
        (one_more (get_or table n Nobody) i _ _ (more n) (omega arith, e)
        (λ k p. split k (below_or_last k i p.0) p.1) (s.exact n)))
    at m (inr d) =
        subst (λ h. IsHolders h (λ k. (k < i + 1) × (slice_get own k ≡ Some (Some m))))
        (sym (get_or-set_other table n m (with_holder (get_or table n Nobody) i) Nobody d))
        (same_holders (get_or table m Nobody) _ _ (more m)
        (λ k p. before m k d (below_or_last k i p.0) p.1) (s.exact m))

pub holders_all : (count : ℕ) (own : List (Option ℕ)) (table : List Holders) (i : ℕ) →
    length own ≤ i → Holding count own table i → AreHolders count own table
holders_all count own table i h s = record {
  each = s.each;
  exact = λ m. same_holders (get_or table m Nobody) _ _ (λ k p. p.1)
      (λ k p. (let l = slice_get_within own k (Some m) p in omega arith, p)) (s.exact m);
}

-- a number that several tokens have by themselves
pub clash_held : (h : Holders) (own : List (Option ℕ)) (m : ℕ) → h ≡ Several →
    IsHolders h (λ k. slice_get own k ≡ Some (Some m)) → Clashes own
clash_held Nobody own m e s = absurd (false_true (ap is_held e))
clash_held (One a) own m e s = absurd (false_true (ap is_one (sym e)))
  where
    is_one : Holders → Bool
    is_one Nobody = false
    is_one (One k) = true
    is_one Several = false
clash_held Several own m e (j, k, d, p, q) = go (order_of j k) d
  where
    order_of : (a b : ℕ) → ((a < b) ⊎ (b < a)) ⊎ (a ≡ b)
    order_of a b = grind (arith)

    go : ((j < k) ⊎ (k < j)) ⊎ (j ≡ k) → j ≢ k → Clashes own
    go (inl (inl l)) d = (j, k, m, l, p, q)
    go (inl (inr l)) d = (k, j, m, l, q, p)
    go (inr e) d = absurd (d e)

-- where no number has several holders, no two tokens have one number
pub none_clash : (count : ℕ) (own : List (Option ℕ)) (table : List Holders) →
    AreHolders count own table → ((m : ℕ) → get_or table m Nobody ≡ Several → ⊥) → Clashes own → ⊥
none_clash count own table s none (i, j, m, l, p, q) =
    none m (several_hold (get_or table m Nobody) (λ k. slice_get own k ≡ Some (Some m)) i j
    (λ e. absurd (omega arith)) p q (s.exact m))

-- ---- numbers that are given out

-- The first i numbers are given, and from 257 up to the cursor all are taken.
pub record SoFar (own : List (Option ℕ)) (ns : List ℕ) (i cursor : ℕ) : Type 0 where
  pub each : length ns ≡ i
  pub low : 257 ≤ cursor
  pub high : cursor ≤ number_bound + i
  pub kept : (j m : ℕ) → j < i → slice_get own j ≡ Some (Some m) → slice_get ns j ≡ Some m
  pub given : (j m : ℕ) → j < i → slice_get own j ≡ Some None → slice_get ns j ≡ Some m →
      IsLeast own ns j m
  pub below : (j p : ℕ) → j < i → slice_get own j ≡ Some None → slice_get ns j ≡ Some p → p < cursor
  pub taken : (u : ℕ) → 257 ≤ u → u < cursor → IsOwn own u ⊎
      ((j : ℕ) × (j < i) × (slice_get own j ≡ Some None) × (slice_get ns j ≡ Some u))

get_before : (xs : List ℕ) (x j : ℕ) → j < length xs → slice_get (xs ++ x ∷ []) j ≡ slice_get xs j
get_before [] x j h = absurd (omega arith)
get_before (y ∷ xs) x zero h = refl
get_before (y ∷ xs) x (suc j) h = get_before xs x j (omega arith)

get_last : (xs : List ℕ) (x : ℕ) → slice_get (xs ++ x ∷ []) (length xs) ≡ Some x
get_last [] x = refl
get_last (y ∷ xs) x = get_last xs x

some_same : (x y : ℕ) (o : Option ℕ) → o ≡ Some x → o ≡ Some y → x ≡ y
some_same x y o e f = some_one o o e f refl

-- what holds of the numbers so far holds with one more after them
least_more : (own : List (Option ℕ)) (ns : List ℕ) (x j m : ℕ) → j < length ns →
    IsLeast own ns j m → IsLeast own (ns ++ x ∷ []) j m
least_more own ns x j m h l = record {
  low = l.low;
  free = l.free;
  above = λ k p a b c. l.above k p a b (sym (get_before ns x k (omega arith)) ∙ c);
  least = λ u a b. go u (l.least u a b);
}
  where
    go : (u : ℕ) → IsOwn own u ⊎ ((k : ℕ) × (k < j) × (slice_get own k ≡ Some None) ×
        (slice_get ns k ≡ Some u)) → IsOwn own u ⊎
        ((k : ℕ) × (k < j) × (slice_get own k ≡ Some None) × (slice_get (ns ++ x ∷ []) k ≡ Some u))
    go u (inl a) = inl a
    go u (inr p) = inr (p.0, p.1, p.2, get_before ns x p.0 (let q = p.1 in omega arith) ∙ p.3)

length_push : (ns : List ℕ) (x : ℕ) → length (ns ++ x ∷ []) ≡ length ns + 1
length_push ns x = length-append ns (x ∷ [])

pub numbers_own : (own : List (Option ℕ)) (ns new : List ℕ) (i cursor m : ℕ) →
    slice_get own i ≡ Some (Some m) → new ≡ ns ++ m ∷ [] → SoFar own ns i cursor →
    SoFar own new (i + 1) cursor
numbers_own own ns new i cursor m e q s = subst (λ (xs : List ℕ). SoFar own xs (i + 1) cursor)
    (sym q) (record {
      each = length_push ns m ∙ ap (λ n. n + 1) s.each;
      low = s.low;
      high = let h = s.high in omega arith;
      kept = λ j n h f. kept_last j n (below_or_last j i h) f;
      given = λ j n h f g. given_last j n (below_or_last j i h) f g;
      below = λ j p h f g. below_last j p (below_or_last j i h) f g;
      taken = λ u a b. taken_more u (s.taken u a b);
    })
  where
    at_i : slice_get (ns ++ m ∷ []) i ≡ Some m
    at_i = ap (slice_get (ns ++ m ∷ [])) (sym s.each) ∙ get_last ns m

    before : (j : ℕ) → j < i → slice_get (ns ++ m ∷ []) j ≡ slice_get ns j
    before j h = get_before ns m j (subst (λ n. j < n) (sym s.each) h)

    kept_last : (j n : ℕ) → (j < i) ⊎ (j ≡ i) → slice_get own j ≡ Some (Some n) →
        slice_get (ns ++ m ∷ []) j ≡ Some n
    kept_last j n (inl h) f = before j h ∙ s.kept j n h f
    kept_last j n (inr h) f = ap (slice_get (ns ++ m ∷ [])) h ∙ at_i ∙ ap (λ x. some_of x)
        (one_number own i m n e (subst (λ k. slice_get own k ≡ Some (Some n)) h f))
      where
        some_of : ℕ → Option ℕ
        some_of x = Some x

    given_last : (j n : ℕ) → (j < i) ⊎ (j ≡ i) → slice_get own j ≡ Some None →
        slice_get (ns ++ m ∷ []) j ≡ Some n → IsLeast own (ns ++ m ∷ []) j n
    given_last j n (inl h) f g = least_more own ns m j n (subst (λ k. j < k) (sym s.each) h)
        (s.given j n h f (sym (before j h) ∙ g))
    given_last j n (inr h) f g =
        absurd (not_both own i m (subst (λ k. slice_get own k ≡ Some None) h f) e)

    below_last : (j p : ℕ) → (j < i) ⊎ (j ≡ i) → slice_get own j ≡ Some None →
        slice_get (ns ++ m ∷ []) j ≡ Some p → p < cursor
    below_last j p (inl h) f g = s.below j p h f (sym (before j h) ∙ g)
    below_last j p (inr h) f g =
        absurd (not_both own i m (subst (λ k. slice_get own k ≡ Some None) h f) e)

    taken_more : (u : ℕ) → IsOwn own u ⊎ ((j : ℕ) × (j < i) × (slice_get own j ≡ Some None) ×
        (slice_get ns j ≡ Some u)) → IsOwn own u ⊎
        ((j : ℕ) × (j < i + 1) × (slice_get own j ≡ Some None) ×
        (slice_get (ns ++ m ∷ []) j ≡ Some u))
    taken_more u (inl a) = inl a
    taken_more u (inr p) = inr (p.0, (let h = p.1 in omega arith), p.2, before p.0 p.1 ∙ p.3)

pub numbers_free : (own : List (Option ℕ)) (table : List Holders) (ns new : List ℕ)
    (i cursor m : ℕ) → length table ≤ number_bound → AreHolders (length table) own table →
    slice_get own i ≡ Some None → cursor ≤ m →
    m ≤ max cursor (length table) → is_held (get_or table m Nobody) ≡ false →
    ((u : ℕ) → cursor ≤ u → u < m → is_held (get_or table u Nobody) ≡ true) →
    new ≡ ns ++ m ∷ [] → SoFar own ns i cursor → SoFar own new (i + 1) (m + 1)
numbers_free own table ns new i cursor m few k e from bound free all q s =
    subst (λ (xs : List ℕ). SoFar own xs (i + 1) (m + 1)) (sym q) (record {
      each = length_push ns m ∙ ap (λ n. n + 1) s.each;
      low = let h = s.low in omega arith;
      high = high_of (length table) few bound s.high;
      kept = λ j n h f. kept_last j n (below_or_last j i h) f;
      given = λ j n h f g. given_last j n (below_or_last j i h) f g;
      below = λ j p h f g. below_last j p (below_or_last j i h) f g;
      taken = λ u a b. taken_more u a (below_or_last u m b);
    })
  where
    high_of : (n : ℕ) → n ≤ number_bound → m ≤ max cursor n → cursor ≤ number_bound + i →
        m + 1 ≤ number_bound + (i + 1)
    high_of n a b c = grind (arith)

    at_i : slice_get (ns ++ m ∷ []) i ≡ Some m
    at_i = ap (slice_get (ns ++ m ∷ [])) (sym s.each) ∙ get_last ns m

    before : (j : ℕ) → j < i → slice_get (ns ++ m ∷ []) j ≡ slice_get ns j
    before j h = get_before ns m j (subst (λ n. j < n) (sym s.each) h)

    own_or_given : (u : ℕ) → IsOwn own u ⊎ ((j : ℕ) × (j < i) × (slice_get own j ≡ Some None) ×
        (slice_get ns j ≡ Some u)) → IsOwn own u ⊎
        ((j : ℕ) × (j < i) × (slice_get own j ≡ Some None) × (slice_get (ns ++ m ∷ []) j ≡ Some u))
    own_or_given u (inl a) = inl a
    own_or_given u (inr p) = inr (p.0, p.1, p.2, before p.0 p.1 ∙ p.3)

    below_or : (u : ℕ) → (u < cursor) ⊎ (cursor ≤ u)
    below_or u = grind (arith)

    taken_below : (u : ℕ) → 257 ≤ u → u < m → (u < cursor) ⊎ (cursor ≤ u) → IsOwn own u ⊎
        ((j : ℕ) × (j < i) × (slice_get own j ≡ Some None) × (slice_get (ns ++ m ∷ []) j ≡ Some u))
    taken_below u a b (inl h) = own_or_given u (s.taken u a h)
    taken_below u a b (inr h) = inl (holder_of (get_or table u Nobody) _ (all u h b) (k.exact u))

    here : IsLeast own (ns ++ m ∷ []) i m
    here = record {
      low = let h = s.low in omega arith;
      free = λ o. false_true (sym free ∙ held_by (get_or table m Nobody) _ o.0 o.1 (k.exact m));
      above = λ j p a b c. let l : p < cursor = s.below j p a b (sym (before j a) ∙ c) in
          omega arith;
      least = λ u a b. taken_below u a b (below_or u);
    }

    kept_last : (j n : ℕ) → (j < i) ⊎ (j ≡ i) → slice_get own j ≡ Some (Some n) →
        slice_get (ns ++ m ∷ []) j ≡ Some n
    kept_last j n (inl h) f = before j h ∙ s.kept j n h f
    kept_last j n (inr h) f =
        absurd (not_both own i n e (subst (λ x. slice_get own x ≡ Some (Some n)) h f))

    given_last : (j n : ℕ) → (j < i) ⊎ (j ≡ i) → slice_get own j ≡ Some None →
        slice_get (ns ++ m ∷ []) j ≡ Some n → IsLeast own (ns ++ m ∷ []) j n
    given_last j n (inl h) f g = least_more own ns m j n (subst (λ x. j < x) (sym s.each) h)
        (s.given j n h f (sym (before j h) ∙ g))
    given_last j n (inr h) f g =
        let r : n ≡ m = some_same n m (slice_get (ns ++ m ∷ []) i)
        (subst (λ x. slice_get (ns ++ m ∷ []) x ≡ Some n) h g) at_i in
        subst (λ x. IsLeast own (ns ++ m ∷ []) x n) (sym h)
        (subst (λ x. IsLeast own (ns ++ m ∷ []) i x) (sym r) here)

    below_last : (j p : ℕ) → (j < i) ⊎ (j ≡ i) → slice_get own j ≡ Some None →
        slice_get (ns ++ m ∷ []) j ≡ Some p → p < m + 1
    below_last j p (inl h) f g = let l : p < cursor = s.below j p h f (sym (before j h) ∙ g) in
        omega arith
    below_last j p (inr h) f g = let r : p ≡ m = some_same p m (slice_get (ns ++ m ∷ []) i)
        (subst (λ x. slice_get (ns ++ m ∷ []) x ≡ Some p) h g) at_i in omega arith

    taken_more : (u : ℕ) → 257 ≤ u → (u < m) ⊎ (u ≡ m) → IsOwn own u ⊎
        ((j : ℕ) × (j < i + 1) × (slice_get own j ≡ Some None) ×
        (slice_get (ns ++ m ∷ []) j ≡ Some u))
    taken_more u a (inl h) = wider (taken_below u a h (below_or u))
      where
        wider : IsOwn own u ⊎ ((j : ℕ) × (j < i) × (slice_get own j ≡ Some None) ×
            (slice_get (ns ++ m ∷ []) j ≡ Some u)) → IsOwn own u ⊎
            ((j : ℕ) × (j < i + 1) × (slice_get own j ≡ Some None) ×
            (slice_get (ns ++ m ∷ []) j ≡ Some u))
        wider (inl o) = inl o
        wider (inr p) = inr (p.0, (let x = p.1 in omega arith), p.2, p.3)
    taken_more u a (inr h) = inr
        (i, omega arith, e, subst (λ x. slice_get (ns ++ m ∷ []) i ≡ Some x) (sym h) at_i)

pub numbers_all : (own : List (Option ℕ)) (ns : List ℕ) (i cursor : ℕ) → i ≡ length own →
    SoFar own ns i cursor → AreNumbers own ns
numbers_all own ns i cursor e s = record {
  each = s.each ∙ e;
  kept = λ j m h. s.kept j m (subst (λ n. j < n) (sym e) (slice_get_within own j (Some m) h)) h;
  given = λ j m h g. s.given j m (subst (λ n. j < n) (sym e) (slice_get_within own j None h)) h g;
}

pub at_place : (own : List (Option ℕ)) (i : ℕ) (o : Option ℕ) → i < length own →
    get_or own i None ≡ o → slice_get own i ≡ Some o
at_place own i o h e = slice_get-get_or own i None h ∙ ap (λ (x : Option ℕ). some_of x) e
  where
    some_of : Option ℕ → Option (Option ℕ)
    some_of x = Some x
