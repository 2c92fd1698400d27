-- Lists that are made by number.
use Rattle.std.proofs.Common.{ℕ, zero, suc, ◌≡◌, ◌+◌, ◌<◌, Bool, true, false, cond, List, []}
use Rattle.std.proofs.Common.{◌∷◌, ◌++◌, length, get_or, map, refl, sym, ap, ◌∙◌, arith, Some, None}
use Rattle.std.specs.List.{filter, find, range_with_len}
use Rattle.std.proofs.lemmas.List.{append-nil}
use Rattle.std.proofs.lemmas.List.Elements.{filter-append}
use Rattle.std.proofs.lemmas.List.{map-id}
use Rattle.std.proofs.lemmas.List.FromFn.{map-range_with_len_more}

-- the numbers below n + 1
pub range_more : (n : ℕ) → range_with_len 0 (n + 1) ≡ range_with_len 0 n ++ n ∷ []
range_more n = sym (map-id (range_with_len 0 (n + 1))) ∙
    (map-range_with_len_more (λ (x : ℕ). x) 0 n n (omega arith) ∙
    ap (λ (l : List ℕ). l ++ n ∷ []) (map-id (range_with_len 0 n)))

-- a list made by number, with one more
pub made_more : {X : Type 0} (f : ℕ → X) (old new : List X) (n : ℕ) (x : X) →
    new ≡ old ++ x ∷ [] → old ≡ map f (range_with_len 0 n) → x ≡ f n →
    new ≡ map f (range_with_len 0 (n + 1))
made_more f old new n x e i h = e ∙ (ap (λ l. l ++ x ∷ []) i ∙
    (ap (λ y. map f (range_with_len 0 n) ++ y ∷ []) h ∙
    sym (map-range_with_len_more f 0 n n (omega arith))))

-- the first element that passes, and none that does
pub find_first : {X : Type 0} (p : X → Bool) (xs : List X) (at : ℕ) (d : X) → at < length xs →
    ((k : ℕ) → k < at → p (get_or xs k d) ≡ false) → p (get_or xs at d) ≡ true →
    find p xs ≡ Some (get_or xs at d)
find_first p [] at d l f t = absurd (omega arith)
find_first p (x ∷ xs) zero d l f t = ap (λ b. cond b (Some x) (find p xs)) t
find_first p (x ∷ xs) (suc at) d l f t = ap (λ b. cond b (Some x) (find p xs)) (f 0 (omega arith)) ∙
    find_first p xs at d (omega arith) (λ k m. f (suc k) (omega arith)) t

pub find_none : {X : Type 0} (p : X → Bool) (xs : List X) (d : X) →
    ((k : ℕ) → k < length xs → p (get_or xs k d) ≡ false) → find p xs ≡ None
find_none p [] d f = refl
find_none p (x ∷ xs) d f = ap (λ b. cond b (Some x) (find p xs)) (f 0 (omega arith)) ∙
    find_none p xs d (λ k m. f (suc k) (omega arith))

-- the numbers that pass, with one more
pub filter_yes : (p : ℕ → Bool) (n : ℕ) (old new : List ℕ) → new ≡ old ++ n ∷ [] → p n ≡ true →
    old ≡ filter p (range_with_len 0 n) → new ≡ filter p (range_with_len 0 (n + 1))
filter_yes p n old new e t i = e ∙ (ap (λ (l : List ℕ). l ++ n ∷ []) i ∙
    (ap (λ (b : Bool). filter p (range_with_len 0 n) ++ cond b (n ∷ []) []) (sym t) ∙
    (sym (filter-append p (range_with_len 0 n) (n ∷ [])) ∙ ap (filter p) (sym (range_more n)))))

pub filter_no : (p : ℕ → Bool) (n : ℕ) (old : List ℕ) → p n ≡ false →
    old ≡ filter p (range_with_len 0 n) → old ≡ filter p (range_with_len 0 (n + 1))
filter_no p n old f i = i ∙ (sym (append-nil (filter p (range_with_len 0 n))) ∙
    (ap (λ (b : Bool). filter p (range_with_len 0 n) ++ cond b (n ∷ []) []) (sym f) ∙
    (sym (filter-append p (range_with_len 0 n) (n ∷ [])) ∙ ap (filter p) (sym (range_more n)))))
