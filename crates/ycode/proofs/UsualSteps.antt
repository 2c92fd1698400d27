-- The most usual of some values, one place more at a time.
use Rattle.std.proofs.Common.{ℕ, ◌≡◌, ◌≢◌, ◌+◌, ◌<◌, ◌≤◌, ◌⊎◌, inl, inr, Bool, true, false}
use Rattle.std.proofs.Common.{nat_lt, List, length, get_or, set, take, refl}
use Rattle.std.proofs.Common.{sym, ap, ◌∙◌, subst, arith, Option, Some, None, unwrap_or}
use Rattle.std.proofs.Common.{slice_index, replicate, cond}
use Rattle.std.specs.List.{best_of, fold, range_with_len}
use Rattle.std.proofs.lemmas.Bool.{cases_eq, cases_lt, lt-ltb, le-ltb, eq-eqb, ne_eqb}
use Rattle.std.proofs.lemmas.List.{get_or_past, get_or-set_same, get_or-set_other}
use Rattle.std.proofs.lemmas.List.FromFn.{length-range_with_len, get_or-range_with_len}
use Rattle.std.proofs.lemmas.List.MinMax.{best_of_keeps, best_of_takes}
use Rattle.std.proofs.lemmas.List.Sums.{count_by_more_yes, count_by_more_no, fold_push}
use Rattle.std.proofs.lemmas.List.{take_all, get_or-replicate, length-replicate}
use Rattle.ycode.proofs.ListSteps.{range_more}
use Rattle.ycode.specs.Usual.{has_value, count_of, rank_at, most_usual}

abbrev Values : Type 0
Values = List (Option ℕ)

abbrev beats : Values → ℕ → ℕ → Bool
beats xs i best = nat_lt (rank_at xs best) (rank_at xs i)

-- the best of the places below i
abbrev pub best_to : Values → ℕ → ℕ
best_to xs i = best_of (beats xs) (length xs) (take i (range_with_len 0 (length xs)))

-- this is its value, and its rank
pub record IsBest (xs : Values) (i usual count : ℕ) : Type 0 where
  pub value : usual ≡ unwrap_or (get_or xs (best_to xs i) None) 0
  pub rank : count ≡ rank_at xs (best_to xs i)

pub best_none : (xs : Values) (rank : ℕ) → rank ≡ 0 → IsBest xs 0 0 rank
best_none xs rank e = record {
  value = ap (λ (o : Option ℕ). unwrap_or o 0) (sym past);
  rank = e ∙ ap (λ (o : Option ℕ). count_of (take (length xs + 1) xs) o) (sym past);
}
  where
    past : get_or xs (length xs) None ≡ None
    past = get_or_past xs (length xs) None (omega arith)

module _ (xs : Values) (i : ℕ) (l : i < length xs) where
  within : i < length (range_with_len 0 (length xs))
  within = let e = length-range_with_len 0 (length xs) in omega (arith, e, l)

  there : i ≡ get_or (range_with_len 0 (length xs)) i i
  there = let e = get_or-range_with_len 0 (length xs) i i l in omega (arith, e)

  keeps : beats xs i (best_to xs i) ≡ false → best_to xs i ≡ best_to xs (i + 1)
  keeps t = best_of_keeps (beats xs) (length xs) (range_with_len 0 (length xs)) i i (best_to xs i)
      within there refl t

  takes : beats xs i (best_to xs i) ≡ true → i ≡ best_to xs (i + 1)
  takes t = best_of_takes (beats xs) (length xs) (range_with_len 0 (length xs)) i i (best_to xs i)
      within there refl t

  -- what was best stays, and place i becomes the best
  best_stays : (usual rank : ℕ) → rank_at xs i ≤ rank → IsBest xs i usual rank →
      IsBest xs (i + 1) usual rank
  best_stays usual rank low b = record {
    value = b.value ∙ ap (λ (k : ℕ). unwrap_or (get_or xs k None) 0) same;
    rank = b.rank ∙ ap (rank_at xs) same;
  }
    where
      same : best_to xs i ≡ best_to xs (i + 1)
      same = keeps (le-ltb (rank_at xs (best_to xs i)) (rank_at xs i)
          (let r = b.rank in omega (arith, r, low)))

  best_moves : (old usual rank n : ℕ) → get_or xs i None ≡ Some n → rank < rank_at xs i →
      IsBest xs i old rank → usual ≡ n → IsBest xs (i + 1) usual (rank_at xs i)
  best_moves old usual rank n e low b u = record {
    value = u ∙ (ap (λ (o : Option ℕ). unwrap_or o 0) (sym e) ∙
        ap (λ (k : ℕ). unwrap_or (get_or xs k None) 0) here);
    rank = ap (rank_at xs) here;
  }
    where
      here : i ≡ best_to xs (i + 1)
      here = takes (lt-ltb (rank_at xs (best_to xs i)) (rank_at xs i)
          (let r = b.rank in omega (arith, r, low)))

  -- a place without a value
  pub best_skips : (usual rank : ℕ) → get_or xs i None ≡ None → IsBest xs i usual rank →
      IsBest xs (i + 1) usual rank
  best_skips usual rank e = best_stays usual rank
      (let z : rank_at xs i ≡ 0 = ap (λ (o : Option ℕ). count_of (take (i + 1) xs) o) e in
      omega (arith, z))

  pub counts_skip : (m : ℕ) → get_or xs i None ≡ None → count_of (take (i + 1) xs) (Some m) ≡
      count_of (take i xs) (Some m)
  counts_skip m e = count_by_more_no (has_value m) xs i None l (ap (has_value m) e)

  -- a place with the value n, and the counts with one more of it
  module _ (n : ℕ) (cs cs' : List ℕ) (e : get_or xs i None ≡ Some n) (w : n < length cs)
      (s : cs' ≡ set cs n (slice_index cs n + 1))
      (c : slice_index cs n ≡ count_of (take i xs) (Some n)) where
    at_n : slice_index cs' n ≡ slice_index cs n + 1
    at_n = ap (λ (x : List ℕ). slice_index x n) s ∙
        get_or-set_same cs n (slice_index cs n + 1) 0 w

    other_than : (m : ℕ) → m ≢ n → slice_index cs' m ≡ slice_index cs m
    other_than m d = ap (λ (x : List ℕ). slice_index x m) s ∙
        get_or-set_other cs n m (slice_index cs n + 1) 0 d

    counted : count_of (take (i + 1) xs) (Some n) ≡ slice_index cs' n
    counted = let y = count_by_more_yes (has_value n) xs i None l
        (ap (has_value n) e ∙ eq-eqb n n refl) in omega (arith, y, at_n, c)

    rank_is : rank_at xs i ≡ slice_index cs' n
    rank_is = ap (λ (o : Option ℕ). count_of (take (i + 1) xs) o) e ∙ counted

    pub counts_more : (m : ℕ) → slice_index cs m ≡ count_of (take i xs) (Some m) →
        slice_index cs' m ≡ count_of (take (i + 1) xs) (Some m)
    counts_more m h = go (cases_eq m n)
      where
        go : (m ≡ n) ⊎ (m ≢ n) → slice_index cs' m ≡ count_of (take (i + 1) xs) (Some m)
        go (inl z) = subst (λ (k : ℕ). slice_index cs' k ≡ count_of (take (i + 1) xs) (Some k))
            (sym z) (sym counted)
        go (inr d) = other_than m d ∙ (h ∙ sym (count_by_more_no (has_value m) xs i None l
            (ap (has_value m) e ∙ ne_eqb m n d)))

    pub counts_few : (m k : ℕ) → slice_index cs m ≤ k → slice_index cs' m ≤ k + 1
    counts_few m k h = go (cases_eq m n)
      where
        go : (m ≡ n) ⊎ (m ≢ n) → slice_index cs' m ≤ k + 1
        go (inl z) = let x = ap (slice_index cs') z in let y = ap (slice_index cs) z in
            omega (arith, x, y, at_n, h)
        go (inr d) = let x = other_than m d in omega (arith, x, h)

    pub best_taken : (usual : ℕ) → slice_index cs' usual < slice_index cs' n →
        IsBest xs i usual (slice_index cs usual) → IsBest xs (i + 1) n (slice_index cs' n)
    best_taken usual h b = go (cases_eq usual n)
      where
        go : (usual ≡ n) ⊎ (usual ≢ n) → IsBest xs (i + 1) n (slice_index cs' n)
        go (inl z) = absurd (let x = ap (slice_index cs') z in omega (arith, x, h))
        go (inr d) = subst (IsBest xs (i + 1) n) rank_is (best_moves usual n
            (slice_index cs usual) n e (let x = other_than usual d in
            omega (arith, x, h, rank_is)) b refl)

    pub best_kept : (usual : ℕ) → slice_index cs' n ≤ slice_index cs' usual →
        IsBest xs i usual (slice_index cs usual) → IsBest xs (i + 1) usual (slice_index cs' usual)
    best_kept usual h b = go (cases_eq usual n)
      where
        go : (usual ≡ n) ⊎ (usual ≢ n) → IsBest xs (i + 1) usual (slice_index cs' usual)
        go (inl z) = subst (IsBest xs (i + 1) usual) (rank_is ∙ ap (slice_index cs') (sym z))
            (best_moves usual usual (slice_index cs usual) n e
            (let x = ap (slice_index cs) z in omega (arith, x, rank_is, at_n)) b z)
        go (inr d) = let x = other_than usual d in
            subst (IsBest xs (i + 1) usual) (sym x) (best_stays usual (slice_index cs usual)
            (omega (arith, x, h, rank_is)) b)

-- the best of all places
pub best_of_all : (xs : Values) (i usual rank : ℕ) → length xs ≤ i → IsBest xs i usual rank →
    usual ≡ most_usual xs
best_of_all xs i usual rank l b = b.value ∙
    ap (λ (r : List ℕ). unwrap_or (get_or xs (best_of (beats xs) (length xs) r) None) 0)
    (take_all i (range_with_len 0 (length xs))
    (let e = length-range_with_len 0 (length xs) in omega (arith, e, l)))

-- the place of the greatest number, with one number more
pub greatest_more : (ns : List ℕ) (n old new : ℕ) →
    old ≡ best_of (λ i best. nat_lt (slice_index ns best) (slice_index ns i)) 0 (range_with_len 0 n) →
    new ≡ cond (nat_lt (slice_index ns old) (slice_index ns n)) n old →
    new ≡ best_of (λ i best. nat_lt (slice_index ns best) (slice_index ns i)) 0
    (range_with_len 0 (n + 1))
greatest_more ns n old new e h = h ∙ (ap (λ (b : ℕ). step b n) e ∙
    sym (ap (fold step 0) (range_more n) ∙ fold_push step 0 (range_with_len 0 n) n))
  where
    step : ℕ → ℕ → ℕ
    step b x = cond (nat_lt (slice_index ns b) (slice_index ns x)) x b

-- no place has been counted
pub zeros : (b n : ℕ) → slice_index (replicate b 0) n ≡ 0
zeros b n = go (cases_lt n b)
  where
    go : (n < b) ⊎ (b ≤ n) → slice_index (replicate b 0) n ≡ 0
    go (inl l) = get_or-replicate b n 0 0 l
    go (inr l) = get_or_past (replicate b 0) n 0
        (let e : length {A = ℕ} (replicate b 0) ≡ b = length-replicate b 0 in omega (arith, e, l))

-- a place without a value
pub none_there : (xs : Values) (i : ℕ) → ((n : ℕ) → get_or xs i None ≡ Some n → ⊥) →
    get_or xs i None ≡ None
none_there xs i f = go (get_or xs i None) f
  where
    go : (o : Option ℕ) → ((n : ℕ) → o ≡ Some n → ⊥) → o ≡ None
    go None g = refl
    go (Some n) g = absurd (g n refl)
