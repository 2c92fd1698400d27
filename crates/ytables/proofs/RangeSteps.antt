-- Maps, sums and tests over the numbers below one more.
use Rattle.std.proofs.Common.{ℕ, ◌≡◌, ◌+◌, ◌||◌, Bool, true, false, [], ◌∷◌, ◌++◌, map}
use Rattle.std.proofs.Common.{refl, ap, ◌∙◌, arith}
use Rattle.ylink.proofs.Ranges.{range_more}
use Rattle.std.specs.List.{list_any, sum_by, range_with_len}
use Rattle.std.proofs.lemmas.List.Folds.{list_any-append}
use Rattle.std.proofs.lemmas.List.Sums.{sum_by-append}
use Rattle.std.proofs.lemmas.List.FromFn.{map-range_with_len_more}

or_false : (b : Bool) → (b || false) ≡ b
or_false true = refl
or_false false = refl

module _ (n : ℕ) where
  pub map_more : {X : Type 0} (f : ℕ → X) → map f (range_with_len 0 (n + 1)) ≡ map f
      (range_with_len 0 n) ++ f n ∷ []
  map_more f = map-range_with_len_more f 0 n n (omega arith)

  pub sum_more : (f : ℕ → ℕ) → sum_by f (range_with_len 0 (n + 1)) ≡ sum_by f (range_with_len 0 n) +
      f n
  sum_more f = ap (sum_by f) (range_more 0 n n (omega arith)) ∙ sum_by-append f (range_with_len 0 n)
      (n ∷ []) ∙ ap (λ x. sum_by f (range_with_len 0 n) + x) (let e : 0 + f n ≡ f n = omega arith in
      e)

  pub any_more : (p : ℕ → Bool) → list_any p (range_with_len 0 (n + 1)) ≡
      (list_any p (range_with_len 0 n) || p n)
  any_more p = ap (list_any p) (range_more 0 n n (omega arith)) ∙ list_any-append p
      (range_with_len 0 n) (n ∷ []) ∙ ap (λ b. list_any p (range_with_len 0 n) || b)
      (or_false (p n))
