-- What holds of default reductions under each policy.
use Rattle.std.proofs.Common.{ℕ, suc, ◌≡◌, ◌≢◌, ◌+◌, ◌<◌, ◌≤◌, ◌⊎◌, inl, inr, Bool, true, false}
use Rattle.std.proofs.Common.{not, ◌&&◌, cond, List, [], ◌∷◌, length, get_or, refl, sym}
use Rattle.std.proofs.Common.{ap, ◌∙◌, subst, arith, Option, Some, None, if◌then◌else◌, nat_eq}
use Rattle.std.proofs.Common.{nat_lt, slice_index}
use Rattle.std.proofs.lemmas.Bool.Decides.{eqb_tells, leb_tells}
use Rattle.std.specs.List.{count_by, list_all, range_with_len}
use Rattle.std.proofs.lemmas.List.{get_or_past}
use Rattle.std.proofs.lemmas.List.Folds.{list_all-append, list_all_at}
use Rattle.std.proofs.lemmas.List.FromFn.{length-map-range_with_len, get_or-map-range_with_len}
use Rattle.std.proofs.lemmas.List.FromFn.{length-range_with_len, get_or-range_with_len}
use Rattle.std.proofs.lemmas.List.Sums.{sum_by-cons}
use Rattle.ytables.specs.declared.cell.Action.{Action}
use Rattle.ytables.specs.declared.cell.Action.TheVariants.{Shift, Reduce, Accept, Error}
use Rattle.ytables.specs.Cell.{is_filled, is_reduce}
use Rattle.ytables.specs.Tables.{TablesValue, action_at, default_at}
use Rattle.ycode.specs.declared.policy.Policy.{Policy}
use Rattle.ycode.specs.declared.policy.Policy.TheVariants.{Consistent, Lone, Sole, Most}
use Rattle.ycode.specs.declared.sizes.Sizes.{Sizes}
use Rattle.ycode.specs.Cells.{AreSizes}
use Rattle.ycode.specs.Policies.{act_at, always_at, always_by, filled_by, permits_all, permitted}
use Rattle.ycode.specs.Policies.{reduces_always, rule_for, stays_error}
use Rattle.ycode.specs.States.{states_of, tokens_of, rules_of, Fits, is_error, rule_in}
use Rattle.ycode.specs.States.{reductions_in}
use Rattle.ycode.specs.Usual.{commonest, count_of, counts_in, greatest_place, has_value}
use Rattle.ycode.proofs.ListSteps.{range_more}
use Rattle.ycode.proofs.EntrySteps.{same_yes}
use Rattle.ycode.proofs.CellSteps.{consistent}
use Rattle.ycode.proofs.PackingSteps.{less_or_not}

-- ---- tests of all numbers below another

pub all_more : (f : ℕ → Bool) (n : ℕ) → list_all f (range_with_len 0 n) ≡ true → f n ≡ true →
    list_all f (range_with_len 0 (n + 1)) ≡ true
all_more f n h t = ap (list_all f) (range_more n) ∙
    (list_all-append f (range_with_len 0 n) (n ∷ []) ∙
    ap (λ (b : Bool). b && (f n && true)) h ∙ ap (λ (b : Bool). b && true) t)

pub all_fails : (f : ℕ → Bool) (n k : ℕ) → k < n → f k ≡ false →
    list_all f (range_with_len 0 n) ≡ false
all_fails f n k l h = list_all_at f (range_with_len 0 n) k k
    (let e = length-range_with_len 0 n in omega (arith, e, l))
    (let e = get_or-range_with_len 0 n k k l in
    let z : get_or (range_with_len 0 n) k k ≡ k = omega (arith, e) in ap f z ∙ h)

yes_or_no : (b : Bool) → (b ≡ true) ⊎ (b ≡ false)
yes_or_no true = inl refl
yes_or_no false = inr refl

pub all_each : (f : ℕ → Bool) (n k : ℕ) → list_all f (range_with_len 0 n) ≡ true → k < n →
    f k ≡ true
all_each f n k h l = go (yes_or_no (f k))
  where
    go : (f k ≡ true) ⊎ (f k ≡ false) → f k ≡ true
    go (inl t) = t
    go (inr t) = absurd (let e : true ≡ false = sym h ∙ all_fails f n k l t in cc)

pub all_of : (f : ℕ → Bool) (n : ℕ) → ((k : ℕ) → f k ≡ true) →
    list_all f (range_with_len 0 n) ≡ true
all_of f n h = go (range_with_len 0 n)
  where
    go : (xs : List ℕ) → list_all f xs ≡ true
    go [] = refl
    go (x ∷ xs) = ap (λ (b : Bool). b && list_all f xs) (h x) ∙ go xs

-- ---- a value that some places have

has : (n : ℕ) (o : Option ℕ) → has_value n o ≡ true → o ≡ Some n
has n None h = cc
has n (Some m) h = go (eqb_tells n m)
  where
    go : ((nat_eq n m ≡ true) × (n ≡ m)) ⊎ ((nat_eq n m ≡ false) × (n ≢ m)) → Some m ≡ Some n
    go (inl k) = ap Some (sym k.1)
    go (inr k) = absurd (let e : true ≡ false = sym h ∙ k.0 in cc)

counted : (n : ℕ) (xs : List (Option ℕ)) → 0 < count_by (has_value n) xs →
    (i : ℕ) × (get_or xs i None ≡ Some n)
counted n [] h = absurd (omega arith)
counted n (x ∷ xs) h = go (yes_or_no (has_value n x)) (λ l. counted n xs l)
  where
    go : (has_value n x ≡ true) ⊎ (has_value n x ≡ false) →
        (0 < count_by (has_value n) xs → (i : ℕ) × (get_or xs i None ≡ Some n)) →
        (i : ℕ) × (get_or (x ∷ xs) i None ≡ Some n)
    go (inl t) f = (0, has n x t)
    go (inr t) f =
        let more : 0 < cond (has_value n x) 1 0 + count_by (has_value n) xs =
        subst (λ (k : ℕ). 0 < k) (sum_by-cons (λ (y : Option ℕ). cond (has_value n y) 1 0) x xs) h
        in
        let less : 0 < 0 + count_by (has_value n) xs =
        subst (λ (b : Bool). 0 < cond b 1 0 + count_by (has_value n) xs) t more in
        let rest = f (omega (arith, less)) in
        (suc rest.0, rest.1)

positive : (n : ℕ) → nat_lt 0 n ≡ true → 0 < n
positive n h = go (leb_tells 1 n)
  where
    go : ((nat_lt 0 n ≡ true) × (1 ≤ n)) ⊎ ((nat_lt 0 n ≡ false) × (n < 1)) → 0 < n
    go (inl k) = let l = k.1 in omega (arith, l)
    go (inr k) = absurd (let e : true ≡ false = sym h ∙ k.0 in cc)

-- the commonest value is that of a place
common_at : (bound : ℕ) (xs : List (Option ℕ)) (r : ℕ) → commonest bound xs ≡ Some r →
    (i : ℕ) × (get_or xs i None ≡ Some r)
common_at bound xs r h = go (yes_or_no (nat_lt 0 (slice_index ns k)))
  where
    ns : List ℕ
    ns = counts_in bound xs

    k : ℕ
    k = greatest_place ns

    place : slice_index ns k ≡ 0 → nat_lt 0 (slice_index ns k) ≡ true →
        (i : ℕ) × (get_or xs i None ≡ Some r)
    place e t = absurd (let l = positive (slice_index ns k) t in omega (arith, e, l))

    within : nat_lt 0 (slice_index ns k) ≡ true → (k < bound) ⊎ (bound ≤ k) →
        (i : ℕ) × (get_or xs i None ≡ Some r)
    within t (inl l) =
        let there : slice_index ns k ≡ count_of xs (Some k) =
        get_or-map-range_with_len (λ (n : ℕ). count_of xs (Some n)) 0 bound k k 0 l (omega arith) in
        let some = positive (slice_index ns k) t in
        let found = counted k xs (omega (arith, there, some)) in
        let is : Some k ≡ Some r = sym (ap (λ (b : Bool). if b then Some k else None) t) ∙ h in
        (found.0, found.1 ∙ is)
    within t (inr l) = place (get_or_past ns k 0
        (let e = length-map-range_with_len (λ (n : ℕ). count_of xs (Some n)) 0 bound in
        omega (arith, e, l))) t

    go : (nat_lt 0 (slice_index ns k) ≡ true) ⊎ (nat_lt 0 (slice_index ns k) ≡ false) →
        (i : ℕ) × (get_or xs i None ≡ Some r)
    go (inl t) = within t (less_or_not k bound)
    go (inr f) = absurd (let e : None ≡ Some r =
        sym (ap (λ (b : Bool). if b then Some k else None) f) ∙ h in cc)

-- ---- rules by which states reduce

permitted_is : (p : Policy) (v : TablesValue) (q : ℕ) (o : Option ℕ) (r : ℕ) →
    permitted p v q o ≡ Some r → o ≡ Some r
permitted_is p v q None r e = e
permitted_is p v q (Some s) r e = go (permits_all p v q s) e
  where
    go : (b : Bool) → (if b then Some s else None) ≡ Some r → Some s ≡ Some r
    go true e = e
    go false e = cc

filled_fits : (s r : ℕ) (b : Bool) (o : Option ℕ) (x : Action) →
    ((k : ℕ) → o ≡ Some k → (0 < k) × (k < r)) → Fits s r x → Fits s r (filled_by b o x)
filled_fits s r b None x f h = h
filled_fits s r b (Some k) x f h = go (is_error x && not b)
  where
    go : (c : Bool) → Fits s r (if c then Reduce k else x)
    go true = f k refl
    go false = h

module _ (v : TablesValue) (z : Sizes) (a : AreSizes v z) (q : ℕ) (l : q < states_of v) where
  -- what its cells reduce by are rules
  pub reduction_fits : (t n : ℕ) → get_or (reductions_in v q) t None ≡ Some n →
      (0 < n) × (n < rules_of v)
  reduction_fits t n e = go (less_or_not t (tokens_of v))
    where
      len : length (reductions_in v q) ≡ tokens_of v
      len = length-map-range_with_len (λ (x : ℕ). rule_in (action_at v q x)) 0 (tokens_of v)

      reduced : (x : Action) → Fits (states_of v) (rules_of v) x → rule_in x ≡ Some n →
          (0 < n) × (n < rules_of v)
      reduced (Shift k) f h = cc
      reduced (Reduce k) f h = let z : k ≡ n = cc in
          subst (λ (m : ℕ). (0 < m) × (m < rules_of v)) z f
      reduced Accept f h = cc
      reduced Error f h = cc

      go : (t < tokens_of v) ⊎ (tokens_of v ≤ t) → (0 < n) × (n < rules_of v)
      go (inl m) = reduced (action_at v q t) (a.actions q t l m)
          (sym (get_or-map-range_with_len (λ (x : ℕ). rule_in (action_at v q x)) 0 (tokens_of v) t t
          None m (omega arith)) ∙ e)
      go (inr m) = let f : None ≡ Some n = sym (get_or_past (reductions_in v q) t None
          (omega (arith, len, m))) ∙ e in absurd (cc)

  common_fits : (p : Policy) (r : ℕ) →
      permitted p v q (commonest (rules_of v) (reductions_in v q)) ≡ Some r →
      (0 < r) × (r < rules_of v)
  common_fits p r e =
      let at = common_at (rules_of v) (reductions_in v q) r
      (permitted_is p v q (commonest (rules_of v) (reductions_in v q)) r e) in
      reduction_fits at.0 r at.1

  pub rule_fits : (p : Policy) (r : ℕ) → rule_for p v q ≡ Some r → (0 < r) × (r < rules_of v)
  rule_fits Consistent r e = subst (Fits (states_of v) (rules_of v)) (consistent v q 0 r e)
      (a.actions q 0 l (let p = a.some_tokens in let t = a.tokens in omega (arith, p, t)))
  rule_fits Lone r e = common_fits Lone r e
  rule_fits Sole r e = common_fits Sole r e
  rule_fits Most r e = common_fits Most r e

  -- actions are shifts to states, and reductions by rules
  pub act_fits : (p : Policy) (t : ℕ) → t < tokens_of v →
      Fits (states_of v) (rules_of v) (act_at p v q t)
  act_fits p t m = filled_fits (states_of v) (rules_of v) (stays_error p v q t) (rule_for p v q)
      (action_at v q t) (rule_fits p) (a.actions q t l m)

-- ---- what stays, and what is reduced at each token

pub filled_kept : (b : Bool) (o : Option ℕ) (x : Action) → is_filled x ≡ true → filled_by b o x ≡ x
filled_kept b None x h = refl
filled_kept b (Some k) (Shift n) h = refl
filled_kept b (Some k) (Reduce n) h = refl
filled_kept b (Some k) Accept h = refl
filled_kept b (Some k) Error h = cc

reduce_is : (r : ℕ) (x : Action) → is_reduce r x ≡ true → x ≡ Reduce r
reduce_is r (Shift n) h = cc
reduce_is r (Reduce s) h = go (eqb_tells r s)
  where
    go : ((nat_eq r s ≡ true) × (r ≡ s)) ⊎ ((nat_eq r s ≡ false) × (r ≢ s)) → Reduce s ≡ Reduce r
    go (inl k) = ap Reduce (sym k.1)
    go (inr k) = absurd (let e : true ≡ false = sym h ∙ k.0 in cc)
reduce_is r Accept h = cc
reduce_is r Error h = cc

always_of : (p : Policy) (v : TablesValue) (q : ℕ) (o : Option ℕ) (r : ℕ) →
    always_by p v q o ≡ Some r → (o ≡ Some r) × (reduces_always p v q r ≡ true)
always_of p v q None r e = cc
always_of p v q (Some s) r e = go (yes_or_no (reduces_always p v q s))
  where
    go : (reduces_always p v q s ≡ true) ⊎ (reduces_always p v q s ≡ false) →
        (Some s ≡ Some r) × (reduces_always p v q r ≡ true)
    go (inl t) =
        let is : Some s ≡ Some r = sym (ap (λ (b : Bool). if b then Some s else None) t) ∙ e in
        let same : s ≡ r = cc is in
        (is, subst (λ (k : ℕ). reduces_always p v q k ≡ true) same t)
    go (inr f) = absurd (let no : None ≡ Some r =
        sym (ap (λ (b : Bool). if b then Some s else None) f) ∙ e in cc)

pub always_rule : (p : Policy) (v : TablesValue) (q r : ℕ) → always_at p v q ≡ Some r →
    rule_for p v q ≡ Some r
always_rule p v q r e = (always_of p v q (rule_for p v q) r e).0

pub always_acts : (p : Policy) (v : TablesValue) (q t r : ℕ) → always_at p v q ≡ Some r →
    t < tokens_of v → act_at p v q t ≡ Reduce r
always_acts p v q t r e l = reduce_is r (act_at p v q t)
    (all_each (λ x. is_reduce r (act_at p v q x)) (tokens_of v) t
    (always_of p v q (rule_for p v q) r e).1 l)

-- ---- without default reductions

pub exact_acts : (v : TablesValue) (q t : ℕ) → act_at Consistent v q t ≡ action_at v q t
exact_acts v q t = go (default_at v q) refl
  where
    go : (o : Option ℕ) → default_at v q ≡ o →
        filled_by (stays_error Consistent v q t) o (action_at v q t) ≡ action_at v q t
    go None e = refl
    go (Some r) e = filled_kept (stays_error Consistent v q t) (Some r) (action_at v q t)
        (ap is_filled (consistent v q t r e))

pub exact_always : (v : TablesValue) (q : ℕ) → always_at Consistent v q ≡ default_at v q
exact_always v q = go (default_at v q) refl
  where
    go : (o : Option ℕ) → default_at v q ≡ o → always_by Consistent v q o ≡ o
    go None e = refl
    go (Some r) e = ap (λ (b : Bool). if b then Some r else None)
        (all_of (λ t. is_reduce r (act_at Consistent v q t)) (tokens_of v)
        (λ t. ap (is_reduce r) (exact_acts v q t ∙ consistent v q t r e) ∙ same_yes r r refl))
