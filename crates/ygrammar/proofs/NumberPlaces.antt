-- The holders of the numbers that are given, and the first number at fault.
use Rattle.std.proofs.Common.{ℕ, ◌≡◌, ◌≢◌, ◌<◌, ◌≤◌, ◌+◌, ◌⊎◌, inl, inr, List}
use Rattle.std.proofs.Common.{length, map, Option, Some, None, is_some, refl, sym, ◌∙◌, ap, subst}
use Rattle.std.proofs.Common.{arith, get_or, get_or-set_same, get_or-set_other}
use Rattle.std.proofs.Math.ListN.{set}
use Rattle.std.specs.List.{slice_get}
use Rattle.std.specs.Option.{unwrap_or}
use Rattle.std.proofs.lemmas.Bool.{cases_eq}
use Rattle.std.proofs.lemmas.List.{length-map}
use Rattle.std.proofs.lemmas.Option.{slice_get-get_or, slice_get_within}
use Rattle.ydeclarations.specs.declared.outline.Listed.{Listed}
use Rattle.ydeclarations.specs.Elaboration.{Listing, digits_number, listed_name}
use Rattle.ydeclarations.specs.Outline.{listed_view}
use Rattle.ydeclarations.specs.Owned.{IsFit}
use Rattle.ygrammar.specs.declared.holders.Holders.{Holders}
use Rattle.ygrammar.specs.declared.holders.Holders.TheVariants.{Nobody, Several}
use Rattle.ygrammar.specs.Numbers.{FaultyAt, HasNumber, IsFaulty, IsHolders, with_holder}
use Rattle.ysymbols.specs.Names.{Name, number_in}
use Rattle.ysyntax.specs.declared.tree.Digits.{Digits}
use Rattle.ysymbols.proofs.NameSteps.{false_true}
use Rattle.ysymbols.proofs.Numbers.{below_or_last}
use Rattle.ydeclarations.proofs.WrongSteps.{same_read, seen_there}
use Rattle.ygrammar.proofs.NumberSteps.{one_more, same_holders}

no_number : (l : Listing) → digits_number l ≡ None → (m : ℕ) → digits_number l ≡ Some m →
    IsFit m → ⊥
no_number l e m f fit = false_true (ap is_some (sym e ∙ f))

unfit_number : (l : Listing) (n : ℕ) → digits_number l ≡ Some n → (IsFit n → ⊥) → (m : ℕ) →
    digits_number l ≡ Some m → IsFit m → ⊥
unfit_number l n e not_so m f fit = not_so (subst IsFit (same_read (digits_number l) m n f e) fit)

module _ (ns : List Name) (own : List (Option ℕ)) (xs : List Listed) (i : ℕ) (d : Listed)
    (within : i < length xs) where
  abbrev this : Listing
  this = listed_view (get_or xs i d)

  abbrev Has : ℕ → ℕ → ℕ → Type 0
  Has upto m k = HasNumber ns own (map listed_view xs) upto m k

  wider : (m k : ℕ) → Has i m k → Has (i + 1) m k
  wider m k (inl p) = inl p
  wider m k (inr (j, l, b, there, hk, e, f)) = inr (j, l, omega arith, there, hk, e, f)

  split : (m k : ℕ) → Has (i + 1) m k → Has i m k
      ⊎ ((k ≡ number_in ns (listed_name this)) × (digits_number this ≡ Some m) × IsFit m)
  split m k (inl p) = inl (inl p)
  split m k (inr (j, l, b, there, hk, e, f)) = go (below_or_last j i b)
    where
      go : (j < i) ⊎ (j ≡ i) → Has i m k
          ⊎ ((k ≡ number_in ns (listed_name this)) × (digits_number this ≡ Some m) × IsFit m)
      go (inl b) = inl (inr (j, l, b, there, hk, e, f))
      go (inr q) =
          let same : l ≡ this = same_read (slice_get (map listed_view xs) i) l this
          (subst (λ a. slice_get (map listed_view xs) a ≡ Some l) q there)
          (seen_there xs i d within) in
          inr (
            subst (λ (z : Listing). k ≡ number_in ns (listed_name z)) same hk,
            subst (λ (z : Listing). digits_number z ≡ Some m) same e,
            f,
          )

  -- the listing gives no number in range
  none_given : (hs : List Holders) →
      ((m : ℕ) → digits_number this ≡ Some m → IsFit m → ⊥) →
      ((m : ℕ) → IsHolders (get_or hs m Nobody) (Has i m)) → (m : ℕ) →
      IsHolders (get_or hs m Nobody) (Has (i + 1) m)
  none_given hs not_so s m = same_holders (get_or hs m Nobody) (Has i m) (Has (i + 1) m) (wider m)
      (λ k p. go k (split m k p)) (s m)
    where
      go : (k : ℕ) → Has i m k
          ⊎ ((k ≡ number_in ns (listed_name this)) × (digits_number this ≡ Some m) × IsFit m) →
          Has i m k
      go k (inl p) = p
      go k (inr (hk, e, f)) = absurd (not_so m e f)

  pub none_at : (hs : List Holders) → digits_number this ≡ None →
      ((m : ℕ) → IsHolders (get_or hs m Nobody) (Has i m)) → (m : ℕ) →
      IsHolders (get_or hs m Nobody) (Has (i + 1) m)
  none_at hs e s = none_given hs (no_number this e) s

  pub unfit_at : (hs : List Holders) (n : ℕ) → digits_number this ≡ Some n → (IsFit n → ⊥) →
      ((m : ℕ) → IsHolders (get_or hs m Nobody) (Has i m)) → (m : ℕ) →
      IsHolders (get_or hs m Nobody) (Has (i + 1) m)
  unfit_at hs n e bad s = none_given hs (unfit_number this n e bad) s

  -- the listing gives one
  pub more_given : (hs : List Holders) (n token : ℕ) → digits_number this ≡ Some n → IsFit n →
      token ≡ number_in ns (listed_name this) → n < length hs →
      ((m : ℕ) → IsHolders (get_or hs m Nobody) (Has i m)) → (m : ℕ) →
      IsHolders (get_or (set hs n (with_holder (get_or hs n Nobody) token)) m Nobody)
      (Has (i + 1) m)
  more_given hs n token e f hk small s m = at m (cases_eq m n)
    where
      same : (k : ℕ) → Has i n k
          ⊎ ((k ≡ number_in ns (listed_name this)) × (digits_number this ≡ Some n) × IsFit n) →
          Has i n k ⊎ (k ≡ token)
      same k (inl p) = inl p
      same k (inr (q, e2, f2)) = inr (q ∙ sym hk)

      other : (m k : ℕ) → m ≢ n → Has i m k
          ⊎ ((k ≡ number_in ns (listed_name this)) × (digits_number this ≡ Some m) × IsFit m) →
          Has i m k
      other m k d (inl p) = p
      other m k d (inr (q, e2, f2)) = absurd (d (same_read (digits_number this) m n e2 e))

      at : (m : ℕ) → (m ≡ n) ⊎ (m ≢ n) →
          IsHolders (get_or (set hs n (with_holder (get_or hs n Nobody) token)) m Nobody)
          (Has (i + 1) m)
      at m (inl q) = subst (λ a. IsHolders (get_or (set hs n (with_holder (get_or hs n Nobody)
          token)) a Nobody) (Has (i + 1) a)) (sym q)
          (subst (λ h. IsHolders h (Has (i + 1) n))
          (sym (get_or-set_same hs n (with_holder (get_or hs n Nobody) token) Nobody small))
          (one_more (get_or hs n Nobody) token (Has i n) (Has (i + 1) n) (wider n)
          (inr (i, this, omega arith, seen_there xs i d within, hk, e, f))
          (λ k p. same k (split n k p)) (s n)))
      at m (inr q) = subst (λ h. IsHolders h (Has (i + 1) m))
          (sym (get_or-set_other hs n m (with_holder (get_or hs n Nobody) token) Nobody q))
          (same_holders (get_or hs m Nobody) (Has i m) (Has (i + 1) m) (wider m)
          (λ k p. other m k q (split m k p)) (s m))

-- ---- the first number at fault

module _ (xs : List Listed) (fault : Option ℕ) (hs : List Holders) (i : ℕ) (d : Listed)
    (within : i < length xs) where
  abbrev it : Listing
  it = listed_view (get_or xs i d)

  abbrev Faulty : ℕ → Type 0
  Faulty j = IsFaulty xs fault hs j

  sound_none : digits_number it ≡ None → Faulty i → ⊥
  sound_none e (l, m, there, f, r) = false_true (ap is_some (sym e
      ∙ subst (λ (z : Listing). digits_number z ≡ Some m)
      (same_read (slice_get (map listed_view xs) i) l it there (seen_there xs i d within)) f))

  sound_one : (n : ℕ) → digits_number it ≡ Some n → IsFit n →
      i < unwrap_or fault (length xs) → (get_or hs n Nobody ≡ Several → ⊥) → Faulty i → ⊥
  sound_one n e fit b apart (l, m, there, f, r) = go (same_read (digits_number it) m n
      (subst (λ (z : Listing). digits_number z ≡ Some m)
      (same_read (slice_get (map listed_view xs) i) l it there (seen_there xs i d within)) f) e) r
    where
      go : m ≡ n → (IsFit m → ⊥) ⊎ ((unwrap_or fault (length xs) ≤ i)
          ⊎ (get_or hs m Nobody ≡ Several)) → ⊥
      go q (inl nf) = nf (subst IsFit (sym q) fit)
      go q (inr (inl late)) = absurd (omega arith)
      go q (inr (inr s)) = apart (subst (λ a. get_or hs a Nobody ≡ Several) q s)

  next : (Faulty i → ⊥) → ((j : ℕ) → j < i → Faulty j → ⊥) → (j : ℕ) → j < i + 1 → Faulty j → ⊥
  next not_so before j b p = go (below_or_last j i b)
    where
      go : (j < i) ⊎ (j ≡ i) → ⊥
      go (inl c) = before j c p
      go (inr q) = not_so (subst (λ a. Faulty a) q p)

  pub next_none : digits_number it ≡ None → ((j : ℕ) → j < i → Faulty j → ⊥) → (j : ℕ) →
      j < i + 1 → Faulty j → ⊥
  next_none e before = next (sound_none e) before

  pub next_one : (n : ℕ) → digits_number it ≡ Some n → IsFit n → i < unwrap_or fault (length xs) →
      (get_or hs n Nobody ≡ Several → ⊥) → ((j : ℕ) → j < i → Faulty j → ⊥) → (j : ℕ) →
      j < i + 1 → Faulty j → ⊥
  next_one n e fit b apart before = next (sound_one n e fit b apart) before

  pub stands_here : (n : ℕ) (ds : Digits) → digits_number it ≡ Some n →
      (get_or xs i d).digits ≡ Some ds → ((j : ℕ) → j < i → Faulty j → ⊥) →
      ((IsFit n → ⊥) ⊎ ((unwrap_or fault (length xs) ≤ i) ⊎ (get_or hs n Nobody ≡ Several))) →
      FaultyAt xs fault hs ds.at
  stands_here n ds e q before r = inl (record {
    i = i;
    bad = (it, n, seen_there xs i d within, e, r);
    first = before;
    listed = get_or xs i d;
    digits = ds;
    there = slice_get-get_or xs i d within;
    numbered = q;
    place = refl;
  })

pub none_faulty : (xs : List Listed) (fault : Option ℕ) (hs : List Holders) (i : ℕ) →
    length xs ≤ i → ((j : ℕ) → j < i → IsFaulty xs fault hs j → ⊥) → FaultyAt xs fault hs 0
none_faulty xs fault hs i h before = inr (
  (λ j p. before j (let l = slice_get_within (map listed_view xs) j p.0 p.2 in
      let e = length-map xs listed_view in omega (arith, l, e, h)) p),
  refl,
)
