-- Tests in a row, and the two ends of a list.
use Rattle.std.proofs.Common.{ℕ, zero, suc, ◌≡◌, ◌<◌, ◌≤◌, ◌-◌, Bool, true, false, List, [], ◌∷◌}
use Rattle.std.proofs.Common.{◌++◌, length, drop, refl, sym, ◌∙◌, ap, arith}
use Rattle.std.specs.Prelude.{◌&&◌, get_or}
use Rattle.std.proofs.lemmas.List.{take_at, drop_at, length-append, length-take-le, length-drop}
use Rattle.std.proofs.lemmas.List.{take-append-drop}
use Rattle.ymachine.specs.Machine.{without_last, last_ones}

pub join : {a b : Bool} → a ≡ true → b ≡ true → (a && b) ≡ true
join {a = true} e f = f
join {a = false} e f = e

pub first : (a b : Bool) → (a && b) ≡ true → a ≡ true
first true b e = refl
first false b e = e

pub second : (a b : Bool) → (a && b) ≡ true → b ≡ true
second true b e = e
second false b e = let bad : false ≡ true = e in cc

module _ {X : Type 0} where
  pub without_last-append : (xs ys : List X) (n : ℕ) → n ≡ length ys
      → without_last n (xs ++ ys) ≡ xs
  without_last-append xs ys n e =
      take_at xs ys (length (xs ++ ys) - n) (let a = length-append xs ys in omega (arith, a, e))

  pub last_ones-append : (xs ys : List X) (n : ℕ) → n ≡ length ys → last_ones n (xs ++ ys) ≡ ys
  last_ones-append xs ys n e =
      drop_at xs ys (length (xs ++ ys) - n) (let a = length-append xs ys in omega (arith, a, e))

  pub both_ends : (n : ℕ) (xs : List X) → without_last n xs ++ last_ones n xs ≡ xs
  both_ends n xs = take-append-drop (length xs - n) xs

  pub length-without_last : (n : ℕ) (xs : List X) → length (without_last n xs) ≡ length xs - n
  length-without_last n xs = length-take-le (length xs - n) xs (omega arith)

  pub length-last_ones : (n : ℕ) (xs : List X) → n ≤ length xs → length (last_ones n xs) ≡ n
  length-last_ones n xs h = let l = length-drop (length xs - n) xs in omega (arith, l, h)

  -- the last element
  pub drop_one : (xs : List X) (n : ℕ) (d : X) → suc n ≡ length xs → drop n xs ≡ get_or xs n d ∷ []
  drop_one [] n d e = absurd (omega (arith, e))
  drop_one (x ∷ []) zero d e = refl
  drop_one (x ∷ y ∷ xs) zero d e = absurd (omega (arith, e))
  drop_one (x ∷ xs) (suc n) d e = drop_one xs n d (omega (arith, e))

  pub top_back : (xs : List X) (d : X) → 0 < length xs
      → without_last 1 xs ++ get_or xs (length xs - 1) d ∷ [] ≡ xs
  top_back xs d h =
      ap (λ ys. without_last 1 xs ++ ys) (sym (drop_one xs (length xs - 1) d (omega (arith, h))))
      ∙ both_ends 1 xs
