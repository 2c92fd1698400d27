-- The tokens of numbers, as a list.
use Rattle.std.proofs.Common.{ℕ, zero, suc, ◌≡◌, ◌+◌, ◌<◌, ◌≤◌, ◌⊎◌, inl, inr, Bool, true}
use Rattle.std.proofs.Common.{false}
use Rattle.std.proofs.Common.{not, nat_eq, max, List, [], ◌∷◌, length, get_or, take, refl}
use Rattle.std.proofs.Common.{sym}
use Rattle.std.proofs.Common.{ap, ◌∙◌, arith, Some, None, slice_get, slice_index}
use Rattle.std.proofs.Common.{if◌then◌else◌, Less, Equal, Greater}
use Rattle.std.specs.List.{position_or_len}
use Rattle.std.specs.Ordering.{is_lt, nat_cmp, ord_max}
use Rattle.std.proofs.lemmas.Bool.{cases_lt, lt-ltb, le-ltb, eqb-true, eqb-false, not-true}
use Rattle.std.proofs.lemmas.Bool.{not-false}
use Rattle.std.proofs.lemmas.List.{take_all}
use Rattle.std.proofs.lemmas.List.FromFn.{fill_by_all}
use Rattle.std.proofs.lemmas.List.Sums.{fold_more, prefix_len-le-length, prefix_len_passes}
use Rattle.std.proofs.lemmas.List.Sums.{prefix_len_stops}
use Rattle.ycode.specs.Translation.{translated, TranslatesTo, bound_for, tokens_for}
use Rattle.ycode.proofs.EntrySteps.{below_or_last}
use Rattle.ycode.proofs.PackingSteps.{less_or_not}

-- what stands in a list, and what is read there
pub get_is : (xs : List ℕ) (i : ℕ) → i < length xs → slice_get xs i ≡ Some (get_or xs i 0)
get_is [] i l = absurd (omega arith)
get_is (x ∷ xs) zero l = refl
get_is (x ∷ xs) (suc i) l = get_is xs i (omega arith)

-- the bound with one more number
pub bound_more : (numbers : List ℕ) (s n bound : ℕ) → s < length numbers →
    slice_get numbers s ≡ Some n → bound ≡ bound_for (take s numbers) →
    max bound (n + 1) ≡ bound_for (take (s + 1) numbers)
bound_more numbers s n bound l e b =
    let is : n ≡ get_or numbers s 0 = (let f : Some n ≡ Some (get_or numbers s 0) =
    sym e ∙ get_is numbers s l in cc) in
    ap (λ (x : ℕ). max x (n + 1)) b ∙
    (ap (λ (x : ℕ). max (bound_for (take s numbers)) (x + 1)) is ∙
    sym (fold_more (λ (x y : ℕ). max x (y + 1)) 0 numbers s 0 l))

pub bound_all : (numbers : List ℕ) (s bound : ℕ) → length numbers ≤ s →
    bound ≡ bound_for (take s numbers) → bound ≡ bound_for numbers
bound_all numbers s bound l b = b ∙ ap bound_for (take_all s numbers l)

-- the list is fixed by what it translates
pub translation_is : (k : ℕ) (numbers symbols : List ℕ) → length numbers ≡ k →
    length symbols ≡ bound_for numbers → TranslatesTo k numbers k symbols →
    symbols ≡ tokens_for numbers
translation_is k numbers symbols lk ls t = fill_by_all (λ (n : ℕ). position_or_len (nat_eq n) numbers)
    symbols (bound_for numbers) 0 ls (λ n l. each n (omega (arith, l, ls)))
  where
    each : (n : ℕ) → n < length symbols → get_or symbols n 0 ≡ position_or_len (nat_eq n) numbers
    each n l = sym read ∙ go (less_or_not (position_or_len (nat_eq n) numbers) (length numbers))
      where
        read : translated k symbols n ≡ get_or symbols n 0
        read = ap (λ (b : Bool). if b then slice_index symbols n else k)
            (lt-ltb n (length symbols) l)

        go : (position_or_len (nat_eq n) numbers < length numbers) ⊎
            (length numbers ≤ position_or_len (nat_eq n) numbers) →
            translated k symbols n ≡ position_or_len (nat_eq n) numbers
        go (inl m) =
            let stops = prefix_len_stops (λ (x : ℕ). not (nat_eq n x)) numbers 0 m in
            let is : n ≡ get_or numbers (position_or_len (nat_eq n) numbers) 0 =
            eqb-true n (get_or numbers (position_or_len (nat_eq n) numbers) 0) (not-false _ stops) in
            t.token (position_or_len (nat_eq n) numbers) n (omega (arith, m, lk))
            (get_is numbers (position_or_len (nat_eq n) numbers) m ∙ ap Some (sym is))
        go (inr m) =
            let most = prefix_len-le-length (λ (x : ℕ). not (nat_eq n x)) numbers in
            t.other n (λ s h e. (let low : s < position_or_len (nat_eq n) numbers =
            omega (arith, h, lk, m) in
            let passes = prefix_len_passes (λ (x : ℕ). not (nat_eq n x)) numbers s 0 low in
            let f : Some (get_or numbers s 0) ≡ Some n = sym (get_is numbers s
            (omega (arith, h, lk))) ∙ e in
            eqb-false n (get_or numbers s 0) (not-true _ passes) (cc))) ∙
            omega (arith, most, m, lk)

-- the bound is above one more number
pub above_more : (numbers : List ℕ) (s n bound : ℕ) → slice_get numbers s ≡ Some n →
    ((k m : ℕ) → k < s → slice_get numbers k ≡ Some m → m < bound) → (k m : ℕ) → k < s + 1 →
    slice_get numbers k ≡ Some m → m < max bound (n + 1)
above_more numbers s n bound e f k m l h = go (below_or_last k s l)
  where
    go : (k < s) ⊎ (k ≡ s) → m < max bound (n + 1)
    go (inl d) = let b = f k m d h in omega (arith, b)
    go (inr d) = let z : Some m ≡ Some n = sym h ∙ (ap (slice_get numbers) d ∙ e) in
        let y : m ≡ n = cc in omega (arith, y)

-- there is a number at each place
pub none_missing : (numbers : List ℕ) (s : ℕ) → s < length numbers → slice_get numbers s ≡ None → ⊥
none_missing numbers s l e = let z : None ≡ Some (get_or numbers s 0) = sym e ∙ get_is numbers s l in cc

-- the greater of two numbers, as it is compared
pub ord_max_is : (a b : ℕ) → ord_max nat_cmp a b ≡ max a b
ord_max_is a b = go (cases_lt b a)
  where
    rest : (t : Bool) → (if is_lt (if t then Equal else Greater) then a else b) ≡ b
    rest true = refl
    rest false = refl

    go : (b < a) ⊎ (a ≤ b) → ord_max nat_cmp a b ≡ max a b
    go (inl l) = ap (λ (t : Bool). if is_lt (if t then Less else
        (if nat_eq b a then Equal else Greater)) then a else b) (lt-ltb b a l) ∙ omega (arith, l)
    go (inr l) = ap (λ (t : Bool). if is_lt (if t then Less else
        (if nat_eq b a then Equal else Greater)) then a else b) (le-ltb b a l) ∙
        (rest (nat_eq b a) ∙ omega (arith, l))
