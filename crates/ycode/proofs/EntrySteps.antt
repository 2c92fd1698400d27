-- Entries, one more at a time.
use Rattle.std.proofs.Common.{ℕ, ◌≡◌, ◌≢◌, ◌+◌, ◌<◌, ◌≤◌, ◌⊎◌, arith, inl, inr, true, false}
use Rattle.std.proofs.Common.{nat_eq, List, [], ◌∷◌, ◌++◌}
use Rattle.std.proofs.Common.{refl, sym, ap, ◌∙◌, Option, Some, None, if◌then◌else◌}
use Rattle.std.proofs.lemmas.Bool.{cases_eq}
use Rattle.std.proofs.lemmas.List.{append-nil}
use Rattle.std.proofs.lemmas.List.Concat.{flat_map-append}
use Rattle.std.proofs.lemmas.Bool.Decides.{eqb_tells}
use Rattle.std.specs.List.{flat_map, range_with_len}
use Rattle.ycode.specs.declared.entry.Entry.{Entry}
use Rattle.ycode.proofs.ListSteps.{range_more}
use Rattle.ycode.specs.Entries.{or_else, number_at, entry_at, entry_for, entries_for, Adds}
use Rattle.ycode.specs.Entries.{EntriesAtMost}

pub same_yes : (a b : ℕ) → a ≡ b → nat_eq a b ≡ true
same_yes a b e = go (eqb_tells a b)
  where
    go : ((nat_eq a b ≡ true) × (a ≡ b)) ⊎ ((nat_eq a b ≡ false) × (a ≢ b)) → nat_eq a b ≡ true
    go (inl p) = p.0
    go (inr p) = absurd (p.1 e)

pub same_no : (a b : ℕ) → a ≢ b → nat_eq a b ≡ false
same_no a b n = go (eqb_tells a b)
  where
    go : ((nat_eq a b ≡ true) × (a ≡ b)) ⊎ ((nat_eq a b ≡ false) × (a ≢ b)) → nat_eq a b ≡ false
    go (inl p) = absurd (n p.1)
    go (inr p) = p.0

-- the last entry with the column counts
pub entry_at-last : (es : List Entry) (e : Entry) (t : ℕ) → entry_at (es ++ e ∷ []) t ≡
    or_else (number_at e t) (entry_at es t)
entry_at-last [] e t = go (number_at e t)
  where
    go : (o : Option ℕ) → o ≡ or_else o None
    go (Some n) = refl
    go None = refl
entry_at-last (x ∷ es) e t =
    ap (λ o. or_else o (number_at x t)) (entry_at-last es e t) ∙ go (number_at e t)
  where
    go : (o : Option ℕ) → or_else (or_else o (entry_at es t)) (number_at x t) ≡
        or_else o (or_else (entry_at es t) (number_at x t))
    go (Some n) = refl
    go None = refl

-- an entry at its column, and at another
pub number_here : (e : Entry) (t : ℕ) → e.column ≡ t → number_at e t ≡ Some e.number
number_here e t h = ap (λ b. if b then Some e.number else None) (same_yes e.column t h)

pub number_other : (e : Entry) (t : ℕ) → e.column ≢ t → number_at e t ≡ None
number_other e t h = ap (λ b. if b then Some e.number else None) (same_no e.column t h)

pub last_here : (es : List Entry) (e : Entry) (t : ℕ) → e.column ≡ t → entry_at (es ++ e ∷ []) t ≡
    Some e.number
last_here es e t h = entry_at-last es e t ∙ ap (λ o. or_else o (entry_at es t)) (number_here e t h)

pub last_other : (es : List Entry) (e : Entry) (t : ℕ) → e.column ≢ t → entry_at (es ++ e ∷ []) t ≡
    entry_at es t
last_other es e t h = entry_at-last es e t ∙ ap (λ o. or_else o (entry_at es t))
    (number_other e t h)

-- each number below n + 1 is below n, or n
pub below_or_last : (q n : ℕ) → q < n + 1 → (q < n) ⊎ (q ≡ n)
below_or_last q n l = grind arith

or_none : (o : Option ℕ) → or_else o None ≡ o
or_none (Some n) = refl
or_none None = refl

-- a number more at its column
pub adds_number : (old new : List Entry) (column number : ℕ) →
    new ≡ old ++ record { column = column; number = number } ∷ [] →
    Adds column (Some number) old new
adds_number old new column number e = record {
  is = e;
  here = ap (λ l. entry_at l column) e ∙ last_here old (record { column = column; number = number })
      column refl;
  other = λ t n. ap (λ l. entry_at l t) e ∙
      last_other old (record { column = column; number = number }) t (λ z. n (sym z));
}

pub adds_none : (old : List Entry) (column : ℕ) → Adds column None old old
adds_none old column = record {
  is = sym (append-nil old);
  here = refl;
  other = λ t n. refl;
}

-- the entries with that of one more column
pub entries_for_more : (f : ℕ → Option ℕ) (old new : List Entry) (t : ℕ) (number : Option ℕ) →
    Adds t number old new → number ≡ f t → old ≡ entries_for f t → new ≡ entries_for f (t + 1)
entries_for_more f old new t number a e i = a.is ∙
    (ap (λ (l : List Entry). l ++ entry_for t number) i ∙
    (ap (λ (o : Option ℕ). entries_for f t ++ entry_for t o) e ∙
    (ap (λ (l : List Entry). entries_for f t ++ l) (sym (append-nil (entry_for t (f t)))) ∙
    (sym (flat_map-append (λ (s : ℕ). entry_for s (f s)) (range_with_len 0 t) (t ∷ [])) ∙
    ap (flat_map (λ (s : ℕ). entry_for s (f s))) (sym (range_more t))))))

module _ (old new : List Entry) (t : ℕ) (number : Option ℕ) (a : Adds t number old new)
    (rest : (s : ℕ) → t ≤ s → entry_at old s ≡ None) where
  here : entry_at new t ≡ number
  here = a.here ∙ (ap (or_else number) (rest t (omega arith)) ∙ or_none number)

  pub entries_more : (wanted : ℕ → Option ℕ) → number ≡ wanted t →
      ((s : ℕ) → s < t → entry_at old s ≡ wanted s) → (s : ℕ) → s < t + 1 →
      entry_at new s ≡ wanted s
  entries_more wanted e old_are s l = go (below_or_last s t l)
    where
      go : (s < t) ⊎ (s ≡ t) → entry_at new s ≡ wanted s
      go (inl h) = a.other s (λ z. omega (arith, z, h)) ∙ old_are s h
      go (inr h) = ap (entry_at new) h ∙ (here ∙ (e ∙ ap wanted (sym h)))

  pub rest_more : (s : ℕ) → t + 1 ≤ s → entry_at new s ≡ None
  rest_more s l = a.other s (λ z. omega (arith, z, l)) ∙ rest s (omega (arith, l))

  pub most_more : (n : ℕ) → ((k : ℕ) → number ≡ Some k → k ≤ n) → EntriesAtMost n old →
      EntriesAtMost n new
  most_more n few old_few s k e = go (cases_eq s t)
    where
      go : (s ≡ t) ⊎ (s ≢ t) → k ≤ n
      go (inl h) = few k (sym here ∙ (ap (entry_at new) (sym h) ∙ e))
      go (inr h) = old_few s k (sym (a.other s h) ∙ e)
