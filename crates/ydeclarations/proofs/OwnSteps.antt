-- Numbers: digits, what is given, and what the tokens have by themselves.
use Rattle.std.proofs.Common.{◌||◌}
use Rattle.std.specs.Option.{MatchOption, unwrap_or}
use Rattle.std.proofs.Common.{ℕ, zero, suc, Bool, true, false, not, ◌&&◌, cond, nat_lt, ◌≡◌, ◌≢◌}
use Rattle.std.proofs.Common.{◌<◌, ◌≤◌, ◌+◌, ◌*◌, ◌⊎◌, inl, inr, List, [], ◌∷◌, map, take, drop}
use Rattle.std.proofs.Common.{length, Option, Some, None, is_some, refl, sym, ◌∙◌, ap, subst, arith}
use Rattle.std.proofs.Common.{get_or, get_or-set_same, get_or-set_other, length-set, codes}
use Rattle.std.proofs.Math.ListN.{set}
use Rattle.std.specs.List.{Contains}
use Rattle.std.specs.Char.{digit_value}
use Rattle.std.specs.Str.{bytes_eq}
use Rattle.std.specs.Str.Parse.{digits_value}
use Rattle.std.specs.Cmp.Lexicographic.{same_text, other_text}
use Rattle.std.proofs.lemmas.Bool.Decides.{nat_tests}
use Rattle.std.proofs.lemmas.Int.Digits.{digits_value_push}
use Rattle.std.proofs.lemmas.Str.Parse.{digits_value-take-le}
use Rattle.std.proofs.lemmas.List.{drop_more, take_more}
use Rattle.std.proofs.lemmas.List.Elements.{Contains-append_left, Contains-append_right}
use Rattle.ysymbols.specs.Grammar.{greatest_number}
use Rattle.ydeclarations.specs.declared.outline.Listed.{Listed}
use Rattle.ysyntax.specs.declared.tree.Digits.{Digits}
use Rattle.ysyntax.specs.TreeViews.{digits_view, occurrence_view}
use Rattle.ysymbols.specs.Sources.{option_view}
use Rattle.ydeclarations.specs.Elaboration.{Listing, digits_number, listed_name, literal_value}
use Rattle.ydeclarations.specs.Elaboration.{option_list, said_of, usual_of}
use Rattle.ysymbols.specs.Names.{Name, number_in, printed_literal}
use Rattle.ydeclarations.specs.Outline.{listed_view}
use Rattle.ydeclarations.specs.Owned.{AllFit, GivesUnfit, IsFit, OwnSoFar, TellsNumbers, keep}
use Rattle.ydeclarations.specs.Owned.{with_number}
use Rattle.ysyntax.specs.Tree.{Identifier, quoted}
use Rattle.ysymbols.proofs.NameSteps.{eq_self}
use Rattle.ydeclarations.proofs.TellingSteps.{is_none, passes, same_number, says, skips_at}
use Rattle.ysymbols.proofs.NameSteps.{false_true}
use Rattle.ydeclarations.proofs.TellingSteps.{twice}
use Rattle.std.proofs.lemmas.Bool.{cases_eq}

-- one more digit
pub value_more : (ds : List ℕ) (i value digit d : ℕ) → i < length ds → value ≡ digits_value 10
    (take i ds) → digit ≡ digit_value (get_or ds i d) → value * 10 + digit ≡ digits_value 10
    (take (i + 1) ds)
value_more ds i value digit d h e f = ap (λ v. v * 10 + digit) e ∙ ap
    (λ v. digits_value 10 (take i ds) * 10 + v) f ∙ sym
    (digits_value_push 10 (take i ds) (get_or ds i d)) ∙ ap (digits_value 10)
    (sym (take_more ds i d h))

-- digits that are too large already stay so
pub too_large : (ds : List ℕ) (i value digit d : ℕ) → i < length ds → value ≡ digits_value 10
    (take i ds) → digit ≡ digit_value (get_or ds i d) → greatest_number < value * 10 + digit →
    IsFit (digits_value 10 ds) → ⊥
too_large ds i value digit d h e f g fit =
    let a : digits_value 10 (take (i + 1) ds) ≤ digits_value 10 ds = digits_value-take-le 10 ds
    (i + 1) (omega arith) in
    let b : greatest_number < digits_value 10 (take (i + 1) ds) = subst (λ n. greatest_number < n)
    (value_more ds i value digit d h e f) g in
    let c = fit.1 in
    absurd (omega arith)

-- what a listing says is among what all of them say of its token
pub said_there : {A : Type 0} (f : Listing → Option A) (d : Listed) (xs : List Listed) (i : ℕ)
    (v : A) → i < length xs → f (listed_view (get_or xs i d)) ≡ Some v →
    Contains (said_of f (map listed_view xs) (listed_name (listed_view (get_or xs i d)))) v
said_there f d [] i v h e = absurd (omega arith)
said_there f d (x ∷ xs) zero v h e = Contains-append_left _
    (said_of f (map listed_view xs) (listed_name (listed_view x))) v
    (one (bytes_eq (listed_name (listed_view x)) (listed_name (listed_view x))) (f (listed_view x))
    (eq_self (listed_name (listed_view x))) e)
  where
    one : (b : Bool) (o : Option _) → b ≡ true → o ≡ Some v → Contains (cond b (option_list o) []) v
    one b o p q = rw p (rw q (0, omega arith, refl))
said_there f d (x ∷ xs) (suc i) v h e = Contains-append_right _
    (said_of f (map listed_view xs) (listed_name (listed_view (get_or xs i d)))) v
    (said_there f d xs i v (omega arith) e)

-- a number that is not in range
pub unfit : (n : ℕ) → (IsFit n → ⊥) → (n ≡ 0) ⊎ (greatest_number < n)
unfit n h = go (small_or n)
  where
    small_or : (k : ℕ) → ((k ≡ 0) ⊎ (greatest_number < k)) ⊎ ((1 ≤ k) × (k ≤ greatest_number))
    small_or k = grind (arith)

    go : ((n ≡ 0) ⊎ (greatest_number < n)) ⊎ ((1 ≤ n) × (n ≤ greatest_number)) →
        (n ≡ 0) ⊎ (greatest_number < n)
    go (inl a) = a
    go (inr b) = absurd (h b)

pub fit_more : (table : List (Option ℕ)) (k v : ℕ) → k < length table → IsFit v → AllFit table →
    AllFit (set table k (Some v))
fit_more table k v h f all j m e = go (cases_eq j k)
  where
    some : ℕ → Option ℕ
    some a = Some a

    some_one : (a b : ℕ) → some a ≡ some b → a ≡ b
    some_one a b q = ap (λ (o : Option ℕ). elim o [ None ↦ 0 | Some x ↦ x ]) q

    go : (j ≡ k) ⊎ (j ≢ k) → IsFit m
    go (inr n) = all j m (sym (get_or-set_other table k j (Some v) None n) ∙ e)
    go (inl q) = subst IsFit (some_one v m (sym (get_or-set_same table k (Some v) None h) ∙ ap
        (λ i. get_or (set table k (Some v)) i None) (sym q) ∙ e)) f

-- a listing gives a number
pub adds : (ns : List Name) (table : List (Option ℕ)) (l : Listing) (rest whole : List Listing)
    (i k : ℕ) (number fault new : Option ℕ) → k ≡ number_in ns (listed_name l) →
    MatchOption number (GivesUnfit whole) (λ v. IsFit v × (digits_number l ≡ Some v)) →
    new ≡ cond (is_some fault || (is_some number && not (is_some (get_or table k None)))) fault
    (Some i) → TellsNumbers ns (l ∷ rest) whole table fault →
    TellsNumbers ns rest whole (with_number table k (unwrap_or number 0)) new
adds ns table l rest whole i k number (Some j) new hk gives e s =
    subst (λ (o : Option ℕ). TellsNumbers ns rest whole (with_number table k (unwrap_or number 0))
    o)
    (sym e) s
adds ns table l rest whole i k None None new hk gives e s =
    subst (λ (o : Option ℕ). TellsNumbers ns rest whole (with_number table k 0) o) (sym e) (inl
    gives)
adds ns table l rest whole i k (Some v) None new hk gives e s = go (get_or table k None) refl
  where
    within_or : (a b : ℕ) → ((a < b) × (nat_lt a b ≡ true)) ⊎ ((b ≤ a) × (nat_lt a b ≡ false))
    within_or a b = grind (arith, nat_tests)

    within : (xs : List (Option ℕ)) (a u : ℕ) → get_or xs a None ≡ Some u → a < length xs
    within [] a u h = absurd (false_true (ap is_some h))
    within (x ∷ xs) zero u h = omega arith
    within (x ∷ xs) (suc a) u h = let r = within xs a u h in omega arith

    more : get_or table k None ≡ None →
        ((k < length table) × (nat_lt k (length table) ≡ true)) ⊎
        ((length table ≤ k) × (nat_lt k (length table) ≡ false)) →
        TellsNumbers ns rest whole (with_number table k v) None
    more f (inl (h, b)) = subst (λ (t : List (Option ℕ)). TellsNumbers ns rest whole t None)
        (sym (ap (λ c. cond (c && not (is_some (get_or table k None))) (set table k (Some v)) table)
        b
        ∙ ap (λ (o : Option ℕ). cond (not (is_some o)) (set table k (Some v)) table) f)) (
          says digits_number ns table l rest whole v k gives.1 hk h f s.0,
          fit_more table k v h gives.0 s.1,
        )
    more f (inr (h, b)) = subst (λ (t : List (Option ℕ)). TellsNumbers ns rest whole t None)
        (sym (ap (λ c. cond (c && not (is_some (get_or table k None))) (set table k (Some v)) table)
        b)) (
          passes digits_number ns table l rest whole
              (subst (λ a. length ns ≤ a) hk (subst (λ a. a ≤ k) s.0.each h)) s.0,
          s.1,
        )

    go : (o : Option ℕ) → get_or table k None ≡ o →
        TellsNumbers ns rest whole (with_number table k v) new
    go None f = subst (λ (x : Option ℕ). TellsNumbers ns rest whole (with_number table k v) x)
        (sym (e ∙ ap (λ (x : Option ℕ). cond (not (is_some x)) None (Some i)) f)) (more f
        (within_or k (length table)))
    go (Some u) f = subst (λ (x : Option ℕ). TellsNumbers ns rest whole (with_number table k v) x)
        (sym (e ∙ ap (λ (x : Option ℕ). cond (not (is_some x)) None (Some i)) f))
        (inr (twice digits_number ns table l rest whole u v k gives.1 hk (within table k u f) f
        s.0))

-- the number of a listing's digits
pub digits_are : (x : Listed) (d : Digits) (v : ℕ) → x.digits ≡ Some d →
    v ≡ digits_value 10 d.digits.now → digits_number (listed_view x) ≡ Some v
digits_are x d v e f = ap (λ (o : Option Digits).
    digits_number (record {
      gives = x.gives;
      who = occurrence_view x.who;
      digits =
          option_view digits_view o;
    })) e ∙ ap (λ n. some_of n) (sym f)
  where
    some_of : ℕ → Option ℕ
    some_of n = Some n

-- a listing gives a number in range, or else one that is not
number_given : (d : Listed) (xs : List Listed) (i : ℕ) (ds : Digits) (o : Option ℕ) → i < length xs
    →
    (get_or xs i d).digits ≡ Some ds → MatchOption o (IsFit (digits_value 10 ds.digits.now) → ⊥)
    (λ v. (v ≡ digits_value 10 ds.digits.now) × IsFit v) →
    MatchOption o (GivesUnfit (map listed_view xs))
    (λ v. IsFit v × (digits_number (listed_view (get_or xs i d)) ≡ Some v))
number_given d xs i ds (Some v) h e f = (f.1, digits_are (get_or xs i d) ds v e f.0)
number_given d xs i ds None h e f = (
  _,
  _,
  said_there digits_number d xs i (digits_value 10 ds.digits.now) h
      (digits_are (get_or xs i d) ds _ e refl),
  unfit _ f,
)

-- the same, for a place in a list of the code
pub adds_at : (d : Listed) (ns : List Name) (table : List (Option ℕ)) (xs : List Listed) (i k : ℕ)
    (ds : Digits) (number fault new : Option ℕ) → i < length xs → (get_or xs i d).digits ≡ Some ds →
    k ≡ number_in ns (listed_name (listed_view (get_or xs i d))) →
    MatchOption number (IsFit (digits_value 10 ds.digits.now) → ⊥)
    (λ v. (v ≡ digits_value 10 ds.digits.now) × IsFit v) →
    new ≡ cond (is_some fault || (is_some number && not (is_some (get_or table k None)))) fault
    (Some i) → TellsNumbers ns (map listed_view (drop i xs)) (map listed_view xs) table fault →
    TellsNumbers ns (map listed_view (drop (i + 1) xs)) (map listed_view xs)
    (with_number table k (unwrap_or number 0)) new
adds_at d ns table xs i k ds number fault new h e hk f g s =
    adds ns table (listed_view (get_or xs i d)) (map listed_view (drop (i + 1) xs))
    (map listed_view xs) i k number fault new hk (number_given d xs i ds number h e f) g
    (subst (λ (ys : List Listed). TellsNumbers ns (map listed_view ys) (map listed_view xs) table
    fault) (drop_more xs i d h) s)

-- a listing gives no number
pub adds_none : (d : Listed) (ns : List Name) (table : List (Option ℕ)) (xs : List Listed) (i : ℕ)
    (fault : Option ℕ) → i < length xs → digits_number (listed_view (get_or xs i d)) ≡ None →
    TellsNumbers ns (map listed_view (drop i xs)) (map listed_view xs) table fault →
    TellsNumbers ns (map listed_view (drop (i + 1) xs)) (map listed_view xs) table fault
adds_none d ns table xs i (Some j) h e s = s
adds_none d ns table xs i None h e s =
    (skips_at digits_number d ns table xs i (map listed_view xs) h e s.0, s.1)

pub no_digits : (x : Listed) → x.digits ≡ None → digits_number (listed_view x) ≡ None
no_digits x e = ap (λ (o : Option Digits).
    digits_number (record {
      gives = x.gives;
      who = occurrence_view x.who;
      digits = option_view digits_view o;
    })) e

-- a token that has no number is given one
pub fills : (ns : List Name) (table : List (Option ℕ)) (k v : ℕ) (m : Name) (left right own : Name →
    Option ℕ) → k ≡ number_in ns m → left m ≡ Some v →
    ((n : Name) → bytes_eq n m ≡ false → left n ≡ right n) → OwnSoFar ns table left own →
    OwnSoFar ns (with_number table k v) right own
fills ns table k v m left right own hk hv other s =
    go (nat_lt k (length table) && not (is_some (get_or table k None))) refl
  where
    free_of : (a c : Bool) → (a && not c) ≡ true → (a ≡ true) × (c ≡ false)
    free_of true false e = (refl, refl)
    free_of true true e = absurd (grind (arith))
    free_of false true e = absurd (grind (arith))
    free_of false false e = absurd (grind (arith))

    held_of : (a c : Bool) → (a && not c) ≡ false → a ≡ true → c ≡ true
    held_of a true e h = refl
    held_of true false e h = absurd (grind (arith))
    held_of false false e h = absurd (grind (arith))

    below : nat_lt k (length table) ≡ true → k < length table
    below h = grind (arith, nat_tests)

    in_table : k < length table → nat_lt k (length table) ≡ true
    in_table h = grind (arith, nat_tests)

    kept : (o : Option ℕ) (x y : Option ℕ) → is_some o ≡ true → keep o x ≡ keep o y
    kept (Some u) x y h = refl
    kept None x y h = absurd (grind (arith))

    set_here : k < length table → get_or table k None ≡ None →
        (n : Name) → number_in ns n < length ns → (b : Bool) → bytes_eq n m ≡ b →
        keep (get_or (set table k (Some v)) (number_in ns n) None) (right n) ≡ own n
    set_here h f n i true q =
        let e : n ≡ m = same_text n m (sym q) in
        let j : number_in ns n ≡ k = ap (number_in ns) e ∙ sym hk in
        ap (λ (o : Option ℕ). keep o (right n)) (ap (λ a. get_or (set table k (Some v)) a None) j ∙
        get_or-set_same table k (Some v) None h)
        ∙ sym hv ∙ ap left (sym e)
        ∙ sym (ap (λ (o : Option ℕ). keep o (left n)) (ap (λ a. get_or table a None) j ∙ f))
        ∙ s.said n i
    set_here h f n i false q =
        let j : number_in ns n ≡ k → ⊥ =
        λ a. other_text n m (sym q) (same_number ns n m i (a ∙ hk)) in
        ap (λ (o : Option ℕ). keep o (right n)) (get_or-set_other table k (number_in ns n)
        (Some v) None j)
        ∙ ap (keep (get_or table (number_in ns n) None)) (sym (other n q))
        ∙ s.said n i

    left_here : (nat_lt k (length table) && not (is_some (get_or table k None))) ≡ false →
        (n : Name) → number_in ns n < length ns → (b : Bool) → bytes_eq n m ≡ b →
        keep (get_or table (number_in ns n) None) (right n) ≡ own n
    left_here f n i true q =
        let j : number_in ns n ≡ k = ap (number_in ns) (same_text n m (sym q)) ∙ sym hk in
        let l : k < length table = subst (λ a. a < length table) j
        (subst (λ a. number_in ns n < a) (sym s.each) i) in
        let c : is_some (get_or table k None) ≡ true = held_of (nat_lt k (length table))
        (is_some (get_or table k None)) f (in_table l) in
        kept (get_or table (number_in ns n) None) (right n) (left n)
        (ap (λ a. is_some (get_or table a None)) j ∙ c) ∙ s.said n i
    left_here f n i false q = ap (keep (get_or table (number_in ns n) None)) (sym (other n q)) ∙
        s.said n i

    go : (b : Bool) → (nat_lt k (length table) && not (is_some (get_or table k None))) ≡ b →
        OwnSoFar ns (with_number table k v) right own
    go true e =
        let p = free_of (nat_lt k (length table)) (is_some (get_or table k None)) e in
        subst (λ c. OwnSoFar ns (cond c (set table k (Some v)) table) right own) (sym e) (record {
          each = length-set table k (Some v) ∙ s.each;
          said = λ n i. set_here (below p.0) (is_none (get_or table k None) p.1) n i (bytes_eq n m)
              refl;
        })
    go false e = subst (λ c. OwnSoFar ns (cond c (set table k (Some v)) table) right own) (sym e)
        (record {
          each = s.each;
          said = λ n i. left_here e n i (bytes_eq n m) refl;
        })

-- the value of a literal is given
pub fills_literal : (ns : List Name) (table new : List (Option ℕ)) (k v : ℕ)
    (rest : List Identifier) (own : Name → Option ℕ) → k ≡ number_in ns (printed_literal v) →
    new ≡ with_number table k v → OwnSoFar ns table (literal_value (quoted v ∷ rest)) own →
    OwnSoFar ns new (literal_value rest) own
fills_literal ns table new k v rest own hk e s =
    subst (λ (t : List (Option ℕ)). OwnSoFar ns t (literal_value rest) own) (sym e)
    (fills ns table k v (printed_literal v) (literal_value (quoted v ∷ rest)) (literal_value rest)
    own hk (ap (λ b. cond b (Some v) (literal_value rest (printed_literal v)))
    (eq_self (printed_literal v))) (λ n q. ap (λ b. cond b (Some v) (literal_value rest n)) q) s)

abbrev error_or : List Identifier → Name → Option ℕ
error_or is n = cond (bytes_eq n (codes "error")) (Some 256) (literal_value is n)

-- the numbers of the end and of `error` are given
pub fills_first : (ns : List Name) (table one two : List (Option ℕ)) (a b : ℕ)
    (is : List Identifier) (own : Name → Option ℕ) → a ≡ number_in ns (codes "$end") →
    b ≡ number_in ns (codes "error") → one ≡ with_number table a 0 → two ≡ with_number one b 256 →
    OwnSoFar ns table (usual_of is) own → OwnSoFar ns two (literal_value is) own
fills_first ns table one two a b is own ha hb e f s =
    subst (λ (t : List (Option ℕ)). OwnSoFar ns t (literal_value is) own) (sym f)
    (fills ns one b 256 (codes "error") (error_or is) (literal_value is) own hb
    (ap (λ c. cond c (Some 256) (literal_value is (codes "error"))) (eq_self (codes "error")))
    (λ n q. ap (λ c. cond c (Some 256) (literal_value is n)) q)
    (subst (λ (t : List (Option ℕ)). OwnSoFar ns t (error_or is) own) (sym e)
    (fills ns table a 0 (codes "$end") (usual_of is) (error_or is) own ha
    (ap (λ c. cond c (Some 0) (error_or is (codes "$end"))) (eq_self (codes "$end")))
    (λ n q. ap (λ c. cond c (Some 0) (error_or is n)) q) s)))

pub take_none : {A : Type 0} (xs : List A) (i : ℕ) → length xs ≤ i → drop i xs ≡ []
take_none [] zero h = refl
take_none [] (suc i) h = refl
take_none (x ∷ xs) zero h = absurd (omega arith)
take_none (x ∷ xs) (suc i) h = take_none xs i (omega arith)
