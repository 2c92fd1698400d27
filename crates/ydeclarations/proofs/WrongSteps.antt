-- The first numbers that listings give, and the first listing that gives a wrong one.
use Rattle.std.proofs.Common.{ℕ, suc, Bool, true, false, not, ◌&&◌, ◌||◌, cond, nat_le, nat_lt}
use Rattle.std.proofs.Common.{◌≡◌, ◌≢◌, ◌<◌, ◌≤◌, ◌+◌, ◌⊎◌, inl, inr, List, [], ◌∷◌, ◌++◌, take}
use Rattle.std.proofs.Common.{length, Option, Some, None, is_some, refl, sym, ◌∙◌, ap, subst, arith}
use Rattle.std.proofs.Common.{get_or, get_or-set_same, get_or-set_other, length-set, map}
use Rattle.std.proofs.Math.ListN.{set}
use Rattle.std.specs.List.{slice_get}
use Rattle.std.specs.Option.{MatchOption, option_map, unwrap_or}
use Rattle.std.specs.Str.{bytes_eq}
use Rattle.std.specs.Cmp.Lexicographic.{same_text, other_text}
use Rattle.std.proofs.lemmas.Bool.Decides.{nat_tests}
use Rattle.std.proofs.lemmas.Grind.{flat_map-append}
use Rattle.std.proofs.lemmas.List.{take_more}
use Rattle.std.proofs.lemmas.Option.{get_or_from_slice_get, slice_get_within, slice_get-get_or}
use Rattle.std.proofs.lemmas.Option.{slice_get-map}
use Rattle.ydeclarations.specs.declared.outline.Listed.{Listed}
use Rattle.ydeclarations.specs.Elaboration.{Listing, digits_number, first_or, listed_name}
use Rattle.ydeclarations.specs.Elaboration.{option_list}
use Rattle.ydeclarations.specs.Elaboration.{said_of}
use Rattle.ydeclarations.specs.Outline.{listed_view}
use Rattle.ydeclarations.specs.Owned.{GivesWrong, HasFirst, IsFirstWrong, IsFit, fit_or_0, keep}
use Rattle.ydeclarations.specs.Owned.{small_number, with_number}
use Rattle.ysymbols.specs.Grammar.{greatest_number}
use Rattle.ysymbols.specs.Names.{Name, number_in}
use Rattle.ydeclarations.specs.Printed.{printed_name}
use Rattle.ysymbols.proofs.NameSteps.{false_true}
use Rattle.ysymbols.proofs.Numbers.{below_or_last}
use Rattle.std.specs.Str.Parse.{digits_value}
use Rattle.ysyntax.specs.declared.tree.Digits.{Digits}
use Rattle.ydeclarations.specs.Told.{AreAmong}
use Rattle.ydeclarations.proofs.OwnSteps.{digits_are, unfit}
use Rattle.ydeclarations.proofs.SecondSteps.{named_there}
use Rattle.ydeclarations.proofs.TellingSteps.{same_number}

-- ---- a table with one more number

with_length : (table : List (Option ℕ)) (k v : ℕ) → length (with_number table k v) ≡ length table
with_length table k v = go (nat_lt k (length table) && not (is_some (get_or table k None)))
  where
    go : (b : Bool) → length (cond b (set table k (Some v)) table) ≡ length table
    go true = length-set table k (Some v)
    go false = refl

with_here : (table : List (Option ℕ)) (k v : ℕ) → k < length table →
    get_or (with_number table k v) k None ≡ keep (get_or table k None) (Some v)
with_here table k v h = go (get_or table k None) refl
  where
    below : (a b : ℕ) → a < b → nat_lt a b ≡ true
    below a b l = grind (arith, nat_tests)

    tests : (o : Option ℕ) → get_or table k None ≡ o →
        (nat_lt k (length table) && not (is_some (get_or table k None))) ≡ not (is_some o)
    tests o e = ap (λ b. b && not (is_some (get_or table k None))) (below k (length table) h)
        ∙ ap (λ (x : Option ℕ). not (is_some x)) e

    go : (o : Option ℕ) → get_or table k None ≡ o →
        get_or (with_number table k v) k None ≡ keep (get_or table k None) (Some v)
    go None e = ap (λ b. get_or (cond b (set table k (Some v)) table) k None) (tests None e)
        ∙ get_or-set_same table k (Some v) None h
        ∙ ap (λ (x : Option ℕ). keep x (Some v)) (sym e)
    go (Some u) e = ap (λ b. get_or (cond b (set table k (Some v)) table) k None)
        (tests (Some u) e) ∙ e ∙ ap (λ (x : Option ℕ). keep x (Some v)) (sym e)

with_other : (table : List (Option ℕ)) (k v j : ℕ) → j ≢ k →
    get_or (with_number table k v) j None ≡ get_or table j None
with_other table k v j n = go (nat_lt k (length table) && not (is_some (get_or table k None)))
  where
    go : (b : Bool) → get_or (cond b (set table k (Some v)) table) j None ≡ get_or table j None
    go true = get_or-set_other table k j (Some v) None n
    go false = refl

-- ---- the first numbers

first_append : (xs ys : List ℕ) → first_or (xs ++ ys) None ≡ keep (first_or xs None) (first_or ys
    None)
first_append [] ys = refl
first_append (x ∷ xs) ys = refl

keep_none : (o : Option ℕ) → keep o None ≡ o
keep_none None = refl
keep_none (Some x) = refl

said_push : (before : List Listing) (l : Listing) (n : Name) →
    first_or (said_of small_number (before ++ l ∷ []) n) None
    ≡ keep (first_or (said_of small_number before n) None)
    (first_or (said_of small_number (l ∷ []) n) None)
said_push before l n = ap (λ (xs : List ℕ). first_or xs None) (flat_map-append _ before (l ∷ []))
    ∙ first_append (said_of small_number before n) (said_of small_number (l ∷ []) n)

pub first_more : (ns : List Name) (table : List (Option ℕ)) (before : List Listing) (l : Listing)
    (k v : ℕ) → k ≡ number_in ns (listed_name l) → small_number l ≡ Some v →
    HasFirst ns table before → HasFirst ns (with_number table k v) (before ++ l ∷ [])
first_more ns table before l k v hk e s = record {
  each = with_length table k v ∙ s.each;
  said = λ n h. at n h (bytes_eq n (listed_name l)) refl;
}
  where
    one : (b : Bool) (o : Option ℕ) → b ≡ true → o ≡ Some v →
        Some v ≡ first_or (cond b (option_list o) [] ++ []) None
    one b o p q = rw p (rw q refl)

    none : (b : Bool) (o : Option ℕ) → b ≡ false →
        first_or (cond b (option_list o) [] ++ []) None ≡ None
    none b o p = rw p refl

    at : (n : Name) → number_in ns n < length ns → (b : Bool) → bytes_eq n (listed_name l) ≡ b →
        get_or (with_number table k v) (number_in ns n) None
        ≡ first_or (said_of small_number (before ++ l ∷ []) n) None
    at n h true q =
        let j : number_in ns n ≡ k = ap (number_in ns) (same_text n (listed_name l) (sym q))
        ∙ sym hk in
        let w : k < length table = subst (λ a. a < length table) j
        (subst (λ a. number_in ns n < a) (sym s.each) h) in
        ap (λ a. get_or (with_number table k v) a None) j ∙ with_here table k v w
        ∙ ap (λ (o : Option ℕ). keep o (Some v)) (ap (λ a. get_or table a None) (sym j) ∙ s.said n h)
        ∙ ap (λ (o : Option ℕ). keep (first_or (said_of small_number before n) None) o)
        (one (bytes_eq n (listed_name l)) (small_number l) q e) ∙ sym (said_push before l n)
    at n h false q =
        with_other table k v (number_in ns n)
        (λ a. other_text n (listed_name l) (sym q) (same_number ns n (listed_name l) h (a ∙ hk)))
        ∙ s.said n h ∙ sym (keep_none (first_or (said_of small_number before n) None))
        ∙ ap (λ (o : Option ℕ). keep (first_or (said_of small_number before n) None) o)
        (sym (none (bytes_eq n (listed_name l)) (small_number l) q)) ∙ sym (said_push before l n)

pub first_skips : (ns : List Name) (table : List (Option ℕ)) (before : List Listing) (l : Listing) →
    digits_number l ≡ None → HasFirst ns table before → HasFirst ns table (before ++ l ∷ [])
first_skips ns table before l e s = record {
  each = s.each;
  said = λ n h. s.said n h ∙ sym (keep_none (first_or (said_of small_number before n) None))
      ∙ ap (λ (o : Option ℕ). keep (first_or (said_of small_number before n) None) o)
      (sym (none (bytes_eq n (listed_name l)) (digits_number l) e)) ∙ sym (said_push before l n);
}
  where
    none : (b : Bool) (o : Option ℕ) → o ≡ None →
        first_or (cond b (option_list (option_map fit_or_0 o)) [] ++ []) None ≡ None
    none true o q = rw q refl
    none false o q = refl

-- a number in range is kept, and any other is 0
small_is : (v : ℕ) (number : Option ℕ) → MatchOption number (IsFit v → ⊥)
    (λ w. (w ≡ v) × IsFit w) → fit_or_0 v ≡ unwrap_or number 0
small_is v (Some w) (e, f) = kept v (subst IsFit e f) ∙ sym e
  where
    test : (a : ℕ) → a ≤ greatest_number → nat_le a greatest_number ≡ true
    test a h = grind (arith, nat_tests)

    kept : (a : ℕ) → IsFit a → fit_or_0 a ≡ a
    kept a f = ap (λ b. cond b a 0) (test a f.1)
small_is v None n = go (unfit v n)
  where
    test : (a : ℕ) → greatest_number < a → nat_le a greatest_number ≡ false
    test a h = grind (arith, nat_tests)

    same : (b : Bool) (z : ℕ) → cond b z z ≡ z
    same true z = refl
    same false z = refl

    go : (v ≡ 0) ⊎ (greatest_number < v) → fit_or_0 v ≡ 0
    go (inl e) = ap fit_or_0 e ∙ same (nat_le 0 greatest_number) 0
    go (inr h) = ap (λ b. cond b v 0) (test v h)

pub small_given : (l : Listing) (v : ℕ) (number : Option ℕ) → digits_number l ≡ Some v →
    MatchOption number (IsFit v → ⊥) (λ w. (w ≡ v) × IsFit w) →
    small_number l ≡ Some (unwrap_or number 0)
small_given l v number e m = ap (λ (o : Option ℕ). option_map fit_or_0 o) e
    ∙ ap (λ n. some_of n) (small_is v number m)
  where
    some_of : ℕ → Option ℕ
    some_of n = Some n

-- ---- the first wrong number

same_count : (ls : List Listing) (n : Name) →
    length (said_of small_number ls n) ≡ length (said_of digits_number ls n)
same_count [] n = refl
same_count (l ∷ ls) n = go (bytes_eq n (printed_name l.who)) (digits_number l) (same_count ls n)
  where
    go : (b : Bool) (o : Option ℕ) →
        length (said_of small_number ls n) ≡ length (said_of digits_number ls n) →
        length (cond b (option_list (option_map fit_or_0 o)) [] ++ said_of small_number ls n)
        ≡ length (cond b (option_list o) [] ++ said_of digits_number ls n)
    go true None e = e
    go true (Some m) e = ap suc e
    go false o e = e

some_first : (xs : List ℕ) (u : ℕ) → first_or xs None ≡ Some u → 0 < length xs
some_first [] u e = absurd (false_true (ap is_some e))
some_first (x ∷ xs) u e = omega arith

none_first : (xs : List ℕ) → first_or xs None ≡ None → 0 < length xs → ⊥
none_first [] e h = absurd (omega arith)
none_first (x ∷ xs) e h = false_true (ap is_some (sym e))

-- two readings of one list are the same
pub same_read : {A : Type 0} (o : Option A) (x y : A) → o ≡ Some x → o ≡ Some y → x ≡ y
same_read {A = A} o x y e f = ap (λ (z : Option A). elim z [ None ↦ x | Some w ↦ w ]) (sym e ∙ f)

pub wrong_more : (ns : List Name) (table : List (Option ℕ)) (ls : List Listing) (i k v : ℕ)
    (l : Listing) (number fault new : Option ℕ) → slice_get ls i ≡ Some l →
    digits_number l ≡ Some v → MatchOption number (IsFit v → ⊥) (λ w. (w ≡ v) × IsFit w) →
    k ≡ number_in ns (listed_name l) → k < length ns → HasFirst ns table (take i ls) →
    new ≡ cond (is_some fault || (is_some number && not (is_some (get_or table k None)))) fault
    (Some i) → IsFirstWrong ls i fault → IsFirstWrong ls (i + 1) new
wrong_more ns table ls i k v l number (Some f) new there e m hk h s q w =
    subst (λ (o : Option ℕ). IsFirstWrong ls (i + 1) o) (sym q) w
wrong_more ns table ls i k v l None None new there e m hk h s q w =
    subst (λ (o : Option ℕ). IsFirstWrong ls (i + 1) o) (sym q)
    ((l, v, there, e, inl (unfit v m)), w)
wrong_more ns table ls i k v l (Some u) None new there e m hk h s q w =
    go (get_or table k None) refl
  where
    n : Name
    n = listed_name l

    here : get_or table k None ≡ first_or (said_of small_number (take i ls) n) None
    here = ap (λ a. get_or table a None) hk ∙ s.said n (subst (λ a. a < length ns) hk h)

    not_wrong : get_or table k None ≡ None → GivesWrong ls i → ⊥
    not_wrong f (l2, v2, there2, e2, inl x) = out (subst IsFit m.0 m.1)
        (subst (λ a. (a ≡ 0) ⊎ (greatest_number < a)) (same_read (digits_number l) v2 v
        (subst (λ (z : Listing). digits_number z ≡ Some v2)
        (same_read (slice_get ls i) l2 l there2 there) e2) e) x)
      where
        out : IsFit v → (v ≡ 0) ⊎ (greatest_number < v) → ⊥
        out f (inl a) = let b = f.0 in absurd (omega arith)
        out f (inr a) = let b = f.1 in absurd (omega arith)
    not_wrong f (l2, v2, there2, e2, inr x) =
        none_first (said_of small_number (take i ls) n) (sym here ∙ f)
        (subst (λ a. 0 < a) (sym (same_count (take i ls) n))
        (subst (λ (z : Listing). 0 < length (said_of digits_number (take i ls) (listed_name z)))
        (same_read (slice_get ls i) l2 l there2 there) x))

    go : (o : Option ℕ) → get_or table k None ≡ o → IsFirstWrong ls (i + 1) new
    go None f = subst (λ (o : Option ℕ). IsFirstWrong ls (i + 1) o)
        (sym (q ∙ ap (λ (x : Option ℕ). cond (not (is_some x)) None (Some i)) f))
        (λ j b p. last j (below_or_last j i b) p)
      where
        last : (j : ℕ) → (j < i) ⊎ (j ≡ i) → GivesWrong ls j → ⊥
        last j (inl b) p = w j b p
        last j (inr b) p = not_wrong f (subst (λ a. GivesWrong ls a) b p)
    go (Some x) f = subst (λ (o : Option ℕ). IsFirstWrong ls (i + 1) o)
        (sym (q ∙ ap (λ (x : Option ℕ). cond (not (is_some x)) None (Some i)) f)) (
          (
            l,
            v,
            there,
            e,
            inr (subst (λ a. 0 < a) (same_count (take i ls) n)
                (some_first (said_of small_number (take i ls) n) x (sym here ∙ f))),
          ),
          w,
        )

-- a listing without a number is not wrong
pub wrong_skips : (ls : List Listing) (i : ℕ) (l : Listing) (fault : Option ℕ) →
    slice_get ls i ≡ Some l → digits_number l ≡ None → IsFirstWrong ls i fault →
    IsFirstWrong ls (i + 1) fault
wrong_skips ls i l (Some f) there e w = w
wrong_skips ls i l None there e w = λ j b p. last j (below_or_last j i b) p
  where
    last : (j : ℕ) → (j < i) ⊎ (j ≡ i) → GivesWrong ls j → ⊥
    last j (inl b) p = w j b p
    last j (inr b) p = here (subst (λ a. GivesWrong ls a) b p)
      where
        here : GivesWrong ls i → ⊥
        here (l2, v2, there2, e2, x) = false_true (ap is_some (sym e
            ∙ subst (λ (z : Listing). digits_number z ≡ Some v2)
            (same_read (slice_get ls i) l2 l there2 there) e2))

pub wrong_all : (ls : List Listing) (i n : ℕ) (fault : Option ℕ) → n ≤ i →
    IsFirstWrong ls i fault → IsFirstWrong ls n fault
wrong_all ls i n (Some f) h w = w
wrong_all ls i n None h w = λ j b p. w j (omega arith) p

-- ---- at a place in a list of the code

pub seen_there : (xs : List Listed) (i : ℕ) (d : Listed) → i < length xs →
    slice_get (map listed_view xs) i ≡ Some (listed_view (get_or xs i d))
seen_there xs i d h = slice_get-map listed_view xs i
    ∙ ap (λ (o : Option Listed). option_map listed_view o) (slice_get-get_or xs i d h)

pub taken_there : (ls : List Listing) (i : ℕ) (l : Listing) → slice_get ls i ≡ Some l →
    take (i + 1) ls ≡ take i ls ++ l ∷ []
taken_there ls i l e = take_more ls i l (slice_get_within ls i l e)
    ∙ ap (λ (x : Listing). take i ls ++ x ∷ []) (get_or_from_slice_get ls i l l e)

module _ (d : Listed) (ns : List Name) (table : List (Option ℕ)) (xs : List Listed) (i : ℕ)
    (within : i < length xs) where
  abbrev here : Listing
  here = listed_view (get_or xs i d)

  abbrev all : List Listing
  all = map listed_view xs

  pub first_none_at : digits_number here ≡ None → HasFirst ns table (take i all) →
      HasFirst ns table (take (i + 1) all)
  first_none_at e s = subst (λ (ys : List Listing). HasFirst ns table ys)
      (sym (taken_there all i here (seen_there xs i d within)))
      (first_skips ns table (take i all) here e s)

  pub wrong_none_at : (fault : Option ℕ) → digits_number here ≡ None → IsFirstWrong all i fault →
      IsFirstWrong all (i + 1) fault
  wrong_none_at fault e w = wrong_skips all i here fault (seen_there xs i d within) e w

  module _ (ds : Digits) (k : ℕ) (number : Option ℕ) (is : (get_or xs i d).digits ≡ Some ds)
      (hk : k ≡ number_in ns (listed_name here))
      (read : MatchOption number (IsFit (digits_value 10 ds.digits.now) → ⊥)
      (λ v. (v ≡ digits_value 10 ds.digits.now) × IsFit v)) where
    gives : digits_number here ≡ Some (digits_value 10 ds.digits.now)
    gives = digits_are (get_or xs i d) ds (digits_value 10 ds.digits.now) is refl

    pub first_at : HasFirst ns table (take i all) →
        HasFirst ns (with_number table k (unwrap_or number 0)) (take (i + 1) all)
    first_at s = subst (λ (ys : List Listing). HasFirst ns (with_number table k
        (unwrap_or number 0)) ys) (sym (taken_there all i here (seen_there xs i d within)))
        (first_more ns table (take i all) here k (unwrap_or number 0) hk
        (small_given here (digits_value 10 ds.digits.now) number gives read) s)

    pub wrong_at : (fault new : Option ℕ) → AreAmong ns all → HasFirst ns table (take i all) →
        new ≡ cond (is_some fault || (is_some number && not (is_some (get_or table k None)))) fault
        (Some i) → IsFirstWrong all i fault → IsFirstWrong all (i + 1) new
    wrong_at fault new among s q w = wrong_more ns table all i k (digits_value 10 ds.digits.now)
        here number fault new (seen_there xs i d within) gives read hk
        (subst (λ a. a < length ns) (sym hk) (among (listed_name here) (named_there xs i d within)))
        s q w
