-- The place of a bad number is that of the first.
use Rattle.std.proofs.Common.{ℕ, zero, suc, Bool, true, false, cond, nat_le, ◌≡◌, ◌≢◌, ◌<◌, ◌≤◌}
use Rattle.std.proofs.Common.{◌⊎◌, inl, inr, List, [], ◌∷◌, ◌++◌, take, length, map, Option, Some}
use Rattle.std.proofs.Common.{None, is_some, refl, sym, ◌∙◌, ap, subst, arith, get_or, append-nil}
use Rattle.std.specs.List.{flat_map, slice_get}
use Rattle.std.specs.Option.{option_map, unwrap_or}
use Rattle.std.specs.Str.{bytes_eq}
use Rattle.std.proofs.lemmas.Bool.{cases_eq}
use Rattle.std.proofs.lemmas.Bool.Decides.{nat_tests}
use Rattle.std.proofs.lemmas.List.{length-map}
use Rattle.std.proofs.lemmas.Option.{get_or_from_slice_get, slice_get_within}
use Rattle.ydeclarations.specs.declared.mistake.Mistake.TheVariants as mistakes
use Rattle.ydeclarations.specs.declared.outline.Listed.{Listed}
use Rattle.ydeclarations.specs.declared.outline.Outline.{Outline}
use Rattle.ydeclarations.specs.Elaboration.{Listing, appearances, digits_number, first_or}
use Rattle.ydeclarations.specs.Elaboration.{listed_name}
use Rattle.ydeclarations.specs.Elaboration.{listings, option_list, own_number, said_of, tokens}
use Rattle.ydeclarations.specs.Elaboration.{usual_of}
use Rattle.ydeclarations.specs.Outline.{listed_view}
use Rattle.ydeclarations.specs.OutlineSites.{OutlineSites, is_of_rule, numbers_at}
use Rattle.ydeclarations.specs.Owned.{GivesWrong, HasFirst, IsFirstWrong, IsFit, OwnSoFar, fit_or_0}
use Rattle.ydeclarations.specs.Owned.{keep}
use Rattle.ydeclarations.specs.Owned.{small_number}
use Rattle.ydeclarations.specs.Places.{GivesBad, HoldsNumber, StandsAt, digits_of, given_in, select}
use Rattle.ydeclarations.specs.Printed.{printed_name}
use Rattle.ydeclarations.specs.Told.{AreAmong}
use Rattle.ydeclarations.proofs.GivenTables.{distinct_tokens}
use Rattle.ydeclarations.proofs.OwnSteps.{unfit}
use Rattle.ydeclarations.proofs.SecondSteps.{none_of_rules}
use Rattle.ydeclarations.proofs.SiteSteps.{select_append}
use Rattle.ydeclarations.proofs.TellingSteps.{same_number}
use Rattle.ydeclarations.proofs.TokenSteps.{listed_token, token_among}
use Rattle.ysymbols.specs.Grammar.{greatest_number}
use Rattle.ysymbols.specs.Names.{Name, is_among, number_in}
use Rattle.ysymbols.proofs.NameSteps.{among_number, eq_self, false_true, number_among}
use Rattle.ysymbols.proofs.NameSteps.{or_left, or_right}
use Rattle.ysyntax.specs.declared.tree.Digits.{Digits}
use Rattle.ysyntax.specs.Sites.{Role, Site, digits}
use Rattle.ysyntax.specs.Tree.{Identifier, Tree}
use Rattle.ysyntax.specs.TreeViews.{digits_view, occurrence_view}
use Rattle.ysymbols.specs.Sources.{option_view}
use Rattle.ygrammar.specs.declared.holders.Holders.{Holders}
use Rattle.ygrammar.specs.declared.holders.Holders.TheVariants.{Nobody, One, Several}
use Rattle.ygrammar.specs.Numbers.{FaultyAt, HasNumber, IsFaulty, IsHolders}
use Rattle.ygrammar.proofs.NumberSteps.{at_place, several_hold}

-- ---- numbers in range, as they are and with 0 for others

-- the number that a token has by itself, 0 for one out of range
abbrev pub small_own : Tree → Name → Option ℕ
small_own t n = keep (first_or (said_of small_number (listings t) n) None)
    (usual_of (appearances t) n)

first_small : (ls : List Listing) (n : Name) → first_or (said_of small_number ls n) None
    ≡ option_map fit_or_0 (first_or (said_of digits_number ls n) None)
first_small [] n = refl
first_small (l ∷ ls) n = go (bytes_eq n (printed_name l.who)) (digits_number l) (first_small ls n)
  where
    go : (b : Bool) (o : Option ℕ) → first_or (said_of small_number ls n) None
        ≡ option_map fit_or_0 (first_or (said_of digits_number ls n) None) →
        first_or (cond b (option_list (option_map fit_or_0 o)) [] ++ said_of small_number ls n) None
        ≡ option_map fit_or_0
        (first_or (cond b (option_list o) [] ++ said_of digits_number ls n) None)
    go true None e = e
    go true (Some m) e = refl
    go false o e = e

first_keep : (xs : List ℕ) (y : Option ℕ) → first_or xs y ≡ keep (first_or xs None) y
first_keep [] y = refl
first_keep (x ∷ xs) y = refl

keep_none : (o : Option ℕ) → keep o None ≡ o
keep_none None = refl
keep_none (Some x) = refl

fit_same : (m : ℕ) → IsFit m → fit_or_0 m ≡ m
fit_same m f = ap (λ b. cond b m 0) (test m f.1)
  where
    test : (a : ℕ) → a ≤ greatest_number → nat_le a greatest_number ≡ true
    test a h = grind (arith, nat_tests)

fit_back : (v m : ℕ) → IsFit m → fit_or_0 v ≡ m → v ≡ m
fit_back v m f e = go (nat_le v greatest_number) refl
  where
    go : (b : Bool) → nat_le v greatest_number ≡ b → v ≡ m
    go true q = sym (ap (λ b. cond b v 0) q) ∙ e
    go false q = let z : 0 ≡ m = sym (ap (λ b. cond b v 0) q) ∙ e in
        let low = f.0 in absurd (omega (arith, z, low))

abbrev some_of : ℕ → Option ℕ
some_of x = Some x

one_of : (x y : ℕ) → some_of x ≡ some_of y → x ≡ y
one_of x y e = ap (λ (o : Option ℕ). elim o [ None ↦ x | Some z ↦ z ]) e

kept_to : (o u : Option ℕ) (m : ℕ) → IsFit m → keep o u ≡ Some m →
    keep (option_map fit_or_0 o) u ≡ Some m
kept_to None u m f e = e
kept_to (Some v) u m f e = ap some_of (ap fit_or_0 (one_of v m e) ∙ fit_same m f)

kept_from : (o u : Option ℕ) (m : ℕ) → IsFit m → keep (option_map fit_or_0 o) u ≡ Some m →
    keep o u ≡ Some m
kept_from None u m f e = e
kept_from (Some v) u m f e = ap some_of (fit_back v m f (one_of (fit_or_0 v) m e))

small_to : (t : Tree) (n : Name) (m : ℕ) → IsFit m → own_number t n ≡ Some m →
    small_own t n ≡ Some m
small_to t n m f e = ap (λ (o : Option ℕ). keep o (usual_of (appearances t) n))
    (first_small (listings t) n)
    ∙ kept_to (first_or (said_of digits_number (listings t) n) None) (usual_of (appearances t) n) m
    f (sym (first_keep (said_of digits_number (listings t) n) (usual_of (appearances t) n)) ∙ e)

small_from : (t : Tree) (n : Name) (m : ℕ) → IsFit m → small_own t n ≡ Some m →
    own_number t n ≡ Some m
small_from t n m f e = first_keep (said_of digits_number (listings t) n)
    (usual_of (appearances t) n)
    ∙ kept_from (first_or (said_of digits_number (listings t) n) None) (usual_of (appearances t) n)
    m f (sym (ap (λ (o : Option ℕ). keep o (usual_of (appearances t) n))
    (first_small (listings t) n)) ∙ e)

fit_or_not : (m : ℕ) → IsFit m ⊎ ((IsFit m → ⊥))
fit_or_not m = go (small_or m)
  where
    small_or : (k : ℕ) → ((k ≡ 0) ⊎ (greatest_number < k)) ⊎ ((1 ≤ k) × (k ≤ greatest_number))
    small_or k = grind (arith)

    go : ((m ≡ 0) ⊎ (greatest_number < m)) ⊎ ((1 ≤ m) × (m ≤ greatest_number)) →
        IsFit m ⊎ ((IsFit m → ⊥))
    go (inl (inl a)) = inr (λ f. let b = f.0 in absurd (omega (arith, a, b)))
    go (inl (inr a)) = inr (λ f. let b = f.1 in absurd (omega (arith, a, b)))
    go (inr b) = inl b

-- a table that has the numbers in range as they are
pub small_table : (t : Tree) (table : List (Option ℕ)) → HasFirst (tokens t) table (listings t) →
    OwnSoFar (tokens t) table (usual_of (appearances t)) (small_own t)
small_table t table s = record {
  each = s.each;
  said = λ n h. ap (λ (o : Option ℕ). keep o (usual_of (appearances t) n)) (s.said n h);
}

named_in : (ls : List Listing) (j : ℕ) (l : Listing) → slice_get ls j ≡ Some l →
    is_among (map listed_name ls) (listed_name l) ≡ true
named_in [] j l e = absurd (false_true (ap is_some e))
named_in (x ∷ ls) zero l e =
    let same : x ≡ l = ap (λ (o : Option Listing). elim o [ None ↦ x | Some z ↦ z ]) e in
    or_left (bytes_eq (listed_name l) (listed_name x)) (is_among (map listed_name ls)
    (listed_name l)) (ap (λ (z : Listing). bytes_eq (listed_name l) (listed_name z)) same
    ∙ eq_self (listed_name l))
named_in (x ∷ ls) (suc j) l e = or_right (bytes_eq (listed_name l) (listed_name x))
    (is_among (map listed_name ls) (listed_name l)) (named_in ls j l e)

-- ---- the place of the first

place_at : (xs : List Listed) (i : ℕ) (x : Listed) (d : Digits) → slice_get xs i ≡ Some x →
    x.digits ≡ Some d →
    slice_get (map (λ (p : List ℕ × ℕ). p.1) (flat_map numbers_at xs))
    (length (given_in (take i (map listed_view xs)))) ≡ Some d.at
place_at [] i x d e q = absurd (false_true (ap is_some e))
place_at (y ∷ xs) zero x d e q =
    let same : y ≡ x = ap (λ (o : Option Listed). elim o [ None ↦ y | Some z ↦ z ]) e in
    first y.digits (ap (λ (z : Listed). z.digits) same ∙ q)
  where
    first : (o : Option Digits) → o ≡ Some d → slice_get (map (λ (p : List ℕ × ℕ). p.1)
        (map (λ (g : Digits). (digits_view g, g.at)) (option_list o) ++ flat_map numbers_at xs)) 0
        ≡ Some d.at
    first None w = absurd (false_true (ap is_some w))
    first (Some g) w =
        ap (λ (o : Option Digits). elim o [ None ↦ Some d.at | Some z ↦ Some z.at ]) w
place_at (y ∷ xs) (suc i) x d e q = go y.digits (place_at xs i x d e q)
  where
    go : (o : Option Digits) → slice_get (map (λ (p : List ℕ × ℕ). p.1) (flat_map numbers_at xs))
        (length (given_in (take i (map listed_view xs)))) ≡ Some d.at →
        slice_get (map (λ (p : List ℕ × ℕ). p.1)
        (map (λ (g : Digits). (digits_view g, g.at)) (option_list o) ++ flat_map numbers_at xs))
        (length (option_list (digits_number (record {
          gives = y.gives;
          who = occurrence_view y.who;
          digits = option_view digits_view o;
        })) ++ given_in (take i (map listed_view xs)))) ≡ Some d.at
    go None w = w
    go (Some g) w = w

no_digits : (r : Role) → is_of_rule r ≡ true → digits_of r ≡ None
no_digits (digits i) w = cc
no_digits _ w = refl

abbrev is_several : Holders → Bool
is_several Nobody = false
is_several (One k) = false
is_several Several = true

-- ---- what the code finds is what the tree says

module _ (t : Tree) (xs : List Listed) (numbers : List (Option ℕ)) (fault : Option ℕ)
    (hs : List Holders) (seen : map listed_view xs ≡ listings t)
    (owned : OwnSoFar (tokens t) numbers (λ _. None) (small_own t))
    (wrong : IsFirstWrong (listings t) (length xs) fault)
    (held : (m : ℕ) → IsHolders (get_or hs m Nobody)
    (HasNumber (tokens t) numbers (listings t) (length xs) m)) where
  abbrev Has : ℕ → ℕ → Type 0
  Has m k = HasNumber (tokens t) numbers (listings t) (length xs) m k

  few : length (listings t) ≡ length xs
  few = sym (ap (λ (ls : List Listing). length ls) seen) ∙ length-map xs listed_view

  within : (j : ℕ) (l : Listing) → slice_get (listings t) j ≡ Some l → j < length xs
  within j l e = subst (λ n. j < n) few (slice_get_within (listings t) j l e)

  to_tree : (j : ℕ) (l : Listing) → slice_get (map listed_view xs) j ≡ Some l →
      slice_get (listings t) j ≡ Some l
  to_tree j l e = subst (λ (ls : List Listing). slice_get ls j ≡ Some l) seen e

  to_code : (j : ℕ) (l : Listing) → slice_get (listings t) j ≡ Some l →
      slice_get (map listed_view xs) j ≡ Some l
  to_code j l e = subst (λ (ls : List Listing). slice_get ls j ≡ Some l) (sym seen) e

  is_numbered : (j : ℕ) (l : Listing) → slice_get (listings t) j ≡ Some l →
      number_in (tokens t) (listed_name l) < length (tokens t)
  is_numbered j l e = among_number (tokens t) (listed_name l)
      (listed_token t (listed_name l) (named_in (listings t) j l e))

  has_of : (m : ℕ) (n : Name) → IsFit m → HoldsNumber t n m → Has m (number_in (tokens t) n)
  has_of m n f (inl (j, l, there, q, e)) =
      inr (j, l, within j l there, there, ap (number_in (tokens t)) (sym q), e, f)
  has_of m n f (inr (token, own)) =
      let h : number_in (tokens t) n < length (tokens t) =
      among_number (tokens t) n (token_among t n ∙ token) in
      inl (at_place numbers (number_in (tokens t) n) (Some m)
      (subst (λ a. number_in (tokens t) n < a) (sym owned.each) h)
      (sym (keep_none (get_or numbers (number_in (tokens t) n) None)) ∙ owned.said n h
      ∙ small_to t n m f own))

  other_of : (l : Listing) (m k : ℕ) → IsFit m → k ≢ number_in (tokens t) (listed_name l) →
      Has m k → (n : Name) × (n ≢ listed_name l) × HoldsNumber t n m
  other_of l m k f d (inr (j, l2, b, there, hk, e, f2)) =
      (listed_name l2, λ q. d (hk ∙ ap (number_in (tokens t)) q), inl (j, l2, there, refl, e))
  other_of l m k f d (inl p) =
      let h : k < length (tokens t) = subst (λ a. k < a) owned.each
      (slice_get_within numbers k (Some m) p) in
      let n : Name = get_or (tokens t) k [] in
      let hk : number_in (tokens t) n ≡ k = distinct_tokens t k h in
      let hn : number_in (tokens t) n < length (tokens t) =
      subst (λ a. a < length (tokens t)) (sym hk) h in (
        n,
        λ q. d (sym hk ∙ ap (number_in (tokens t)) q),
        inr (
          sym (token_among t n) ∙ number_among (tokens t) n hn,
          small_from t n m f (sym (owned.said n hn)
              ∙ keep_none (get_or numbers (number_in (tokens t) n) None)
              ∙ ap (λ a. get_or numbers a None) hk
              ∙ get_or_from_slice_get numbers k (Some m) None p),
        ),
      )

  is_late : (j : ℕ) → j < length xs → GivesWrong (listings t) j → (o : Option ℕ) →
      IsFirstWrong (listings t) (length xs) o → (f : ℕ) × (o ≡ Some f) × (f ≤ j)
  is_late j b p None w = absurd (w j b p)
  is_late j b p (Some f) w = (f, refl, go (order f j))
    where
      order : (a b : ℕ) → (a ≤ b) ⊎ (b < a)
      order a b = grind (arith)

      go : (f ≤ j) ⊎ (j < f) → f ≤ j
      go (inl h) = h
      go (inr h) = absurd (w.1 j h p)

  faulty_of : (j : ℕ) → GivesBad t j → IsFaulty xs fault hs j
  faulty_of j (l, m, there, e, inl w) =
      let (f, q, h) = is_late j (within j l there) (l, m, there, e, w) fault wrong in
      (l, m, to_code j l there, e, inr (inl (late f q h)))
    where
      late : (f : ℕ) → fault ≡ Some f → f ≤ j → unwrap_or fault (length xs) ≤ j
      late f q h = rw q h
  faulty_of j (l, m, there, e, inr (n, d, holds)) = go (fit_or_not m)
    where
      go : IsFit m ⊎ ((IsFit m → ⊥)) → IsFaulty xs fault hs j
      go (inr bad) = (l, m, to_code j l there, e, inl bad)
      go (inl f) = (
        l,
        m,
        to_code j l there,
        e,
        inr (inr (several_hold (get_or hs m Nobody) (Has m) (number_in (tokens t) n)
            (number_in (tokens t) (listed_name l))
            (λ q. d (sym (same_number (tokens t) (listed_name l) n (is_numbered j l there)
            (sym q))))
            (has_of m n f holds) (inr (j, l, within j l there, there, refl, e, f)) (held m))),
      )

  bad_of : (i : ℕ) → IsFaulty xs fault hs i → ((j : ℕ) → j < i → IsFaulty xs fault hs j → ⊥) →
      GivesBad t i
  bad_of i (l, m, there, e, inl bad) before =
      (l, m, to_tree i l there, e, inl (inl (unfit m bad)))
  bad_of i (l, m, there, e, inr (inr several)) before = go (fit_or_not m)
    where
      pick : IsFit m → (h : Holders) → h ≡ Several → IsHolders h (Has m) →
          (n : Name) × (n ≢ listed_name l) × HoldsNumber t n m
      pick f Nobody q s = absurd (false_true (ap is_several q))
      pick f (One k) q s = absurd (false_true (ap is_several q))
      pick f Several q (j, k, d, p, r) = one (cases_eq j (number_in (tokens t) (listed_name l)))
        where
          one : (j ≡ number_in (tokens t) (listed_name l))
              ⊎ (j ≢ number_in (tokens t) (listed_name l)) →
              (n : Name) × (n ≢ listed_name l) × HoldsNumber t n m
          one (inr a) = other_of l m j f a p
          one (inl a) = other_of l m k f (λ b. d (a ∙ sym b)) r

      go : IsFit m ⊎ ((IsFit m → ⊥)) → GivesBad t i
      go (inr bad) = (l, m, to_tree i l there, e, inl (inl (unfit m bad)))
      go (inl f) = (l, m, to_tree i l there, e, inr (pick f (get_or hs m Nobody) several (held m)))
  bad_of i (l, m, there, e, inr (inl late)) before = go fault refl wrong
    where
      go : (o : Option ℕ) → fault ≡ o → IsFirstWrong (listings t) (length xs) o → GivesBad t i
      go None q w =
          let b = within i l (to_tree i l there) in
          let h : length xs ≤ i = subst (λ (o : Option ℕ). unwrap_or o (length xs) ≤ i) q late in
          absurd (omega (arith, b, h))
      go (Some f) q w =
          let h : f ≤ i = subst (λ (o : Option ℕ). unwrap_or o (length xs) ≤ i) q late in
          at (cases_eq f i) h
        where
          at : (f ≡ i) ⊎ (f ≢ i) → f ≤ i → GivesBad t i
          at (inl a) h = subst (λ a. GivesBad t a) a
              (let (l2, m2, there2, e2, r) = w.0 in (l2, m2, there2, e2, inl r))
          at (inr a) h =
              let (l2, m2, there2, e2, r) = w.0 in
              absurd (before f (below f i a h) (
                l2,
                m2,
                to_code f l2 there2,
                e2,
                inr (inl
                    (subst (λ (o : Option ℕ). unwrap_or o (length xs) ≤ f) (sym q) (self f))),
              ))
            where
              below : (a b : ℕ) → a ≢ b → a ≤ b → a < b
              below a b d h = grind (arith)

              self : (a : ℕ) → a ≤ a
              self a = omega arith

  pub bad_placed : (o : Outline) (ds rs : List Site) (at : ℕ) → OutlineSites o ds rs →
      o.listed.items ≡ xs → FaultyAt xs fault hs at → StandsAt t (ds ++ rs) mistakes.BadNumber at
  bad_placed o ds rs at sites are (inr (none, q)) = inr ((λ i p. none i (faulty_of i p)), q)
  bad_placed o ds rs at sites are (inl s) = inl (record {
    i = s.i;
    bad = bad_of s.i s.bad s.first;
    first = λ j b p. s.first j b (faulty_of j p);
    place = subst (λ (ps : List (List ℕ × ℕ)). slice_get (map (λ (p : List ℕ × ℕ). p.1) ps)
        (length (given_in (take s.i (listings t)))) ≡ Some at) (sym places)
        (subst (λ (ls : List Listing). slice_get (map (λ (p : List ℕ × ℕ). p.1)
        (flat_map numbers_at xs)) (length (given_in (take s.i ls))) ≡ Some at) seen
        (place_at xs s.i s.listed s.digits s.there s.numbered ∙ ap some_of (sym s.place)));
  })
    where
      places : select digits_of (ds ++ rs) ≡ flat_map numbers_at xs
      places = select_append digits_of ds rs ∙ ap (λ z. select digits_of ds ++ z)
          (none_of_rules digits_of no_digits rs sites.of_rules) ∙ append-nil (select digits_of ds)
          ∙ sym sites.numbers ∙ ap (λ (ys : List Listed). flat_map numbers_at ys) are

-- ---- from what the calls ensure

pub small_whole : (t : Tree) (ns : List Name) (ys xs : List Listed) (is : List Identifier)
    (given own : List (Option ℕ)) → ns ≡ tokens t → ys ≡ xs → map listed_view xs ≡ listings t →
    is ≡ appearances t → HasFirst ns given (map listed_view ys) →
    ((f : Name → Option ℕ) → OwnSoFar ns given (usual_of is) f → OwnSoFar ns own (λ _. None) f) →
    OwnSoFar (tokens t) own (λ _. None) (small_own t)
small_whole t ns ys xs is given own e y g f s h =
    subst (λ (x : List Name). OwnSoFar x own (λ _. None) (small_own t)) e
    (h (small_own t) (subst (λ (z : List Identifier). OwnSoFar ns given (usual_of z) (small_own t))
    (sym f)
    (subst (λ (x : List Name). OwnSoFar x given (usual_of (appearances t)) (small_own t)) (sym e)
    (small_table t given (subst (λ (x : List Name). HasFirst x given (listings t)) e
    (subst (λ (ls : List Listing). HasFirst ns given ls)
    (ap (λ (zs : List Listed). map listed_view zs) y ∙ g) s))))))

pub wrong_here : (t : Tree) (ns : List Name) (ys xs : List Listed) (fault : Option ℕ) →
    ns ≡ tokens t → ys ≡ xs → map listed_view xs ≡ listings t →
    (AreAmong ns (map listed_view ys) → IsFirstWrong (map listed_view ys) (length ys) fault) →
    IsFirstWrong (listings t) (length xs) fault
wrong_here t ns ys xs fault e y g w =
    subst (λ (ls : List Listing). IsFirstWrong ls (length xs) fault) g
    (subst (λ (zs : List Listed). IsFirstWrong (map listed_view zs) (length zs) fault) y
    (w (subst (λ (ls : List Listing). AreAmong ns ls)
    (sym (ap (λ (zs : List Listed). map listed_view zs) y ∙ g))
    (subst (λ (x : List Name). AreAmong x (listings t)) (sym e)
    (λ n h. among_number (tokens t) n (listed_token t n h))))))

pub held_here : (t : Tree) (ns : List Name) (ys xs : List Listed) (read own : List (Option ℕ))
    (hs : List Holders) → ns ≡ tokens t → ys ≡ xs → map listed_view xs ≡ listings t → read ≡ own →
    ((m : ℕ) → IsHolders (get_or hs m Nobody)
    (HasNumber ns read (map listed_view ys) (length ys) m)) →
    (m : ℕ) → IsHolders (get_or hs m Nobody) (HasNumber (tokens t) own (listings t) (length xs) m)
held_here t ns ys xs read own hs e y g r h m =
    subst (λ (x : List Name). IsHolders (get_or hs m Nobody)
    (HasNumber x own (listings t) (length xs) m)) e
    (subst (λ (ls : List Listing). IsHolders (get_or hs m Nobody)
    (HasNumber ns own ls (length xs) m)) g
    (subst (λ (zs : List Listed). IsHolders (get_or hs m Nobody)
    (HasNumber ns own (map listed_view zs) (length zs) m)) y
    (subst (λ (o : List (Option ℕ)). IsHolders (get_or hs m Nobody)
    (HasNumber ns o (map listed_view ys) (length ys) m)) r (h m))))
