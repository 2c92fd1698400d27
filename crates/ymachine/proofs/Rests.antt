-- The upcoming tokens, with their places.
use Rattle.std.proofs.Common.{ℕ, zero, suc, ◌≡◌, ◌+◌, ◌-◌, ◌<◌, ◌≤◌, ◌==◌, Bool, true, false}
use Rattle.std.proofs.Common.{if◌then◌else◌, List, [], ◌∷◌, ◌++◌, length, drop, map, reverse}
use Rattle.std.proofs.Common.{get_or, refl, sym, ap, ap₂, ◌∙◌, arith, length-drop}
use Rattle.std.specs.Prelude.{◌||◌, nat_lt}
use Rattle.std.proofs.lemmas.Bool.{eqb-true, ltb-true, ltb-false, lt-ltb, leb-true, le-leb}
use Rattle.std.proofs.lemmas.List.{reverse-append, length-append, length-map, length-reverse}
use Rattle.std.proofs.lemmas.List.{get_or-append_right}
use Rattle.ymachine.specs.Machine.{lookahead, without_last}
use Rattle.ymachine.specs.History.{places_from}
use Rattle.ymachine.specs.Rest.{Rest, at_no_place, rest_left, ahead, is_left, place_left}
use Rattle.ymachine.specs.Rest.{without_first}
use Rattle.ymachine.specs.Rest.{with_first_back, with_insertion, without_insertion}
use Rattle.ymachine.specs.Content.{rest_fits}
use Rattle.ymachine.proofs.Ends.{join, first, second, top_back, without_last-append}
use Rattle.ymachine.proofs.Ends.{length-without_last}

pub length-places_from : (n : ℕ) (xs : List ℕ) → length (places_from n xs) ≡ length xs
length-places_from n [] = refl
length-places_from n (x ∷ xs) = ap suc (length-places_from (suc n) xs)

pub drop-places_from : (n i : ℕ) (xs : List ℕ) → i < length xs
    → drop i (places_from n xs) ≡ (get_or xs i 0, n + i) ∷ drop (suc i) (places_from n xs)
drop-places_from n i [] h = absurd (omega arith)
drop-places_from n zero (x ∷ xs) h = let e : n ≡ n + zero = omega arith in
    ap (λ (m : ℕ). let pair : ℕ × ℕ = (x, m) in pair ∷ places_from (suc n) xs) e
drop-places_from n (suc i) (x ∷ xs) h =
    let e : suc n + i ≡ n + suc i = omega arith in
    drop-places_from (suc n) i xs (omega arith)
    ∙ ap (λ (m : ℕ). let pair : ℕ × ℕ = (get_or xs i 0, m) in
    pair ∷ drop (suc i) (places_from (suc n) xs)) e

pub drop_end-places_from : (n i : ℕ) (xs : List ℕ) → length xs ≤ i → drop i (places_from n xs) ≡ []
drop_end-places_from n zero [] h = refl
drop_end-places_from n (suc i) [] h = refl
drop_end-places_from n zero (x ∷ xs) h = absurd (omega arith)
drop_end-places_from n (suc i) (x ∷ xs) h = drop_end-places_from (suc n) i xs (omega arith)

-- the token ahead, or the end
pub lookahead_at : (n i : ℕ) (xs : List ℕ) → lookahead (drop i (places_from n xs)) ≡ get_or xs i 0
lookahead_at n zero [] = refl
lookahead_at n (suc i) [] = refl
lookahead_at n zero (x ∷ xs) = refl
lookahead_at n (suc i) (x ∷ xs) = lookahead_at (suc n) i xs

-- where the token ahead isn't the end, there is an upcoming token
pub left_by_token : (i : ℕ) (xs : List ℕ) → (get_or xs i 0 ≡ 0 → ⊥) → i < length xs
left_by_token i [] h = absurd (h (nothing i))
  where
    nothing : (j : ℕ) → get_or {A = ℕ} [] j 0 ≡ 0
    nothing zero = refl
    nothing (suc j) = refl
left_by_token zero (x ∷ xs) h = omega arith
left_by_token (suc i) (x ∷ xs) h = let l = left_by_token i xs h in omega (arith, l)

pub get-places_from : (n i k : ℕ) (xs : List ℕ) → i + k < length xs
    → get_or (drop i (places_from n xs)) k (0, 0) ≡ (get_or xs (i + k) 0, n + i + k)
get-places_from n i k [] h = absurd (omega arith)
get-places_from n zero zero (x ∷ xs) h = let e : n ≡ n + zero + zero = omega arith in
    ap (λ (m : ℕ). let pair : ℕ × ℕ = (x, m) in pair) e
get-places_from n zero (suc k) (x ∷ xs) h =
    let from : get_or (places_from (suc n) xs) k (0, 0)
    ≡ (get_or xs (zero + k) 0, suc n + zero + k) =
    get-places_from (suc n) zero k xs (omega arith) in
    let e : suc n + zero + k ≡ n + zero + suc k = omega arith in
    let f : zero + k ≡ k = omega arith in
    let g : zero + suc k ≡ suc k = omega arith in
    from ∙ ap₂ (λ (j m : ℕ). let pair : ℕ × ℕ = (get_or xs j 0, m) in pair) f e
    ∙ ap (λ (j : ℕ). let pair : ℕ × ℕ = (get_or (x ∷ xs) j 0, n + zero + suc k) in pair) (sym g)
get-places_from n (suc i) k (x ∷ xs) h =
    let from : get_or (drop i (places_from (suc n) xs)) k (0, 0)
    ≡ (get_or xs (i + k) 0, suc n + i + k) = get-places_from (suc n) i k xs (omega arith) in
    let e : suc n + i + k ≡ n + suc i + k = omega arith in
    let g : suc i + k ≡ suc (i + k) = omega arith in
    from ∙ ap (λ (m : ℕ). let pair : ℕ × ℕ = (get_or xs (i + k) 0, m) in pair) e
    ∙ ap (λ (j : ℕ). let pair : ℕ × ℕ = (get_or (x ∷ xs) j 0, n + suc i + k) in pair) (sym g)

-- ---- with those that were inserted

abbrev held : List ℕ → ℕ → ℕ → Rest
held inserted at edits = record { inserted = inserted; at = at; edits = edits }

one_less : (n : ℕ) → (n + 1) - 1 ≡ n
one_less n = omega arith

-- a number above 0
not_zero : (n : ℕ) → 0 < n → (n == 0) ≡ false
not_zero n h = by (n == 0) refl
  where
    by : (b : Bool) → (n == 0) ≡ b → (n == 0) ≡ false
    by true e = let z = eqb-true n 0 e in absurd (omega (arith, h, z))
    by false e = e

-- what depends on whether a token is inserted
abbrev ahead_by : Bool → List ℕ → List ℕ → ℕ → ℕ
ahead_by b tokens inserted at =
    if b then get_or tokens at 0 else get_or inserted (length inserted - 1) 0

abbrev place_by : Bool → ℕ → ℕ
place_by b at = if b then at + 1 else 0

abbrev taken_by : Bool → List ℕ → ℕ → ℕ → Rest
taken_by b inserted at edits =
    if b then held inserted (at + 1) edits else held (without_last 1 inserted) at edits

some_inserted : (x : ℕ) (xs : List ℕ) → (length (x ∷ xs) == 0) ≡ false
some_inserted x xs = not_zero (length (x ∷ xs)) (omega arith)

-- a token that is inserted is upcoming
some_left : (tokens : List ℕ) (x : ℕ) (xs : List ℕ) (at edits : ℕ)
    → is_left tokens (held (x ∷ xs) at edits) ≡ true
some_left tokens x xs at edits =
    ap (λ (b : Bool). b || nat_lt at (length tokens)) (lt-ltb 0 (length (x ∷ xs)) (omega arith))

-- the tokens inserted, the next one first
newest : (inserted : List ℕ) → 0 < length inserted
    → reverse inserted ≡ get_or inserted (length inserted - 1) 0 ∷ reverse (without_last 1 inserted)
newest inserted h =
    ap reverse (sym (top_back inserted 0 h))
    ∙ reverse-append (without_last 1 inserted) (get_or inserted (length inserted - 1) 0 ∷ [])

-- the upcoming tokens are the one ahead and those after it
left_first : (tokens inserted : List ℕ) (at edits : ℕ)
    → is_left tokens (held inserted at edits) ≡ true
    → rest_left tokens (held inserted at edits)
    ≡ (
      ahead tokens (held inserted at edits),
      place_left (held inserted at edits),
    ) ∷ rest_left tokens (without_first (held inserted at edits))
left_first tokens [] at edits h =
    let e : 1 + at ≡ at + 1 = omega arith in
    let k : suc at ≡ at + 1 = omega arith in
    drop-places_from 1 at tokens (ltb-true at (length tokens) h)
    ∙ ap (λ (n : ℕ). let pair : ℕ × ℕ = (get_or tokens at 0, n) in
    pair ∷ drop (suc at) (places_from 1 tokens)) e
    ∙ ap (λ (n : ℕ). let pair : ℕ × ℕ = (get_or tokens at 0, at + 1) in
    pair ∷ drop n (places_from 1 tokens)) k
left_first tokens (x ∷ xs) at edits h =
    ap (λ (l : List ℕ). map at_no_place l ++ drop at (places_from 1 tokens))
    (newest (x ∷ xs) (omega arith))
    ∙ ap (λ (b : Bool). let pair : ℕ × ℕ = (ahead_by b tokens (x ∷ xs) at, place_by b at) in
    pair ∷ rest_left tokens (taken_by b (x ∷ xs) at edits)) (sym (some_inserted x xs))

pub left : (tokens : List ℕ) (r : Rest) → is_left tokens r ≡ true
    → rest_left tokens r ≡ (ahead tokens r, place_left r) ∷ rest_left tokens (without_first r)
left tokens r h = left_first tokens r.inserted r.at r.edits h

none_first : (tokens inserted : List ℕ) (at edits : ℕ)
    → is_left tokens (held inserted at edits) ≡ false
    → rest_left tokens (held inserted at edits) ≡ []
none_first tokens [] at edits h = drop_end-places_from 1 at tokens (ltb-false at (length tokens) h)
none_first tokens (x ∷ xs) at edits h = let bad : true ≡ false =
    sym (some_left tokens x xs at edits) ∙ h in cc

pub none_left : (tokens : List ℕ) (r : Rest) → is_left tokens r ≡ false → rest_left tokens r ≡ []
none_left tokens r h = none_first tokens r.inserted r.at r.edits h

ahead_first : (tokens inserted : List ℕ) (at edits : ℕ)
    → lookahead (rest_left tokens (held inserted at edits)) ≡ ahead tokens (held inserted at edits)
ahead_first tokens [] at edits = lookahead_at 1 at tokens
ahead_first tokens (x ∷ xs) at edits =
    ap lookahead (left_first tokens (x ∷ xs) at edits (some_left tokens x xs at edits))

-- the token ahead, or the end
pub ahead_is : (tokens : List ℕ) (r : Rest) → lookahead (rest_left tokens r) ≡ ahead tokens r
ahead_is tokens r = ahead_first tokens r.inserted r.at r.edits

left_here : (tokens inserted : List ℕ) (at edits : ℕ)
    → (ahead tokens (held inserted at edits) ≡ 0 → ⊥)
    → is_left tokens (held inserted at edits) ≡ true
left_here tokens [] at edits h = lt-ltb at (length tokens) (left_by_token at tokens h)
left_here tokens (x ∷ xs) at edits h = some_left tokens x xs at edits

-- where the token ahead isn't the end, there is an upcoming token
pub left_by_ahead : (tokens : List ℕ) (r : Rest) → (ahead tokens r ≡ 0 → ⊥)
    → is_left tokens r ≡ true
left_by_ahead tokens r h = left_here tokens r.inserted r.at r.edits h

back_first : (tokens inserted : List ℕ) (at edits : ℕ)
    → with_first_back (place_left (held inserted at edits)) (ahead tokens (held inserted at edits))
    (without_first (held inserted at edits)) ≡ held inserted at edits
back_first tokens [] at edits =
    ap (λ (b : Bool). if b then held (get_or tokens at 0 ∷ []) (at + 1) edits else held []
    ((at + 1) - 1) edits) (not_zero (at + 1) (omega arith))
    ∙ ap (λ (n : ℕ). held [] n edits) (one_less at)
back_first tokens (x ∷ xs) at edits =
    ap (λ (b : Bool). with_first_back (place_by b at) (ahead_by b tokens (x ∷ xs) at)
    (taken_by b (x ∷ xs) at edits)) (some_inserted x xs)
    ∙ ap (λ (l : List ℕ). held l at edits) (top_back (x ∷ xs) 0 (omega arith))

-- a token that was taken and comes back
pub taken_back : (tokens : List ℕ) (r : Rest)
    → with_first_back (place_left r) (ahead tokens r) (without_first r) ≡ r
taken_back tokens r = back_first tokens r.inserted r.at r.edits

-- an insertion that is undone
pub inserted_back : (token : ℕ) (r : Rest) → without_insertion (with_insertion token r) ≡ r
inserted_back token r =
    ap (λ (l : List ℕ). held l r.at ((r.edits + 1) - 1))
    (without_last-append r.inserted (token ∷ []) 1 refl)
    ∙ ap (λ (n : ℕ). held r.inserted r.at n) (one_less r.edits)

-- an inserted token comes first
pub inserted_first : (tokens : List ℕ) (token : ℕ) (r : Rest)
    → rest_left tokens (with_insertion token r) ≡ (token, 0) ∷ rest_left tokens r
inserted_first tokens token r =
    ap (λ (l : List ℕ). map at_no_place l ++ drop r.at (places_from 1 tokens))
    (reverse-append r.inserted (token ∷ []))

fits_first : (tokens inserted : List ℕ) (at edits : ℕ)
    → rest_fits tokens (held inserted at edits) ≡ true
    → is_left tokens (held inserted at edits) ≡ true
    → rest_fits tokens (without_first (held inserted at edits)) ≡ true
fits_first tokens [] at edits f h =
    join (first _ _ f) (le-leb (at + 1) (length tokens) (let l = ltb-true at (length tokens) h in
    omega (arith, l)))
fits_first tokens (x ∷ xs) at edits f h =
    let l = length-without_last 1 (x ∷ xs) in
    let few = leb-true (length (x ∷ xs)) edits (first _ _ f) in
    ap (λ (b : Bool). rest_fits tokens (taken_by b (x ∷ xs) at edits)) (some_inserted x xs)
    ∙ join (le-leb (length (without_last 1 (x ∷ xs))) edits (omega (arith, l, few))) (second _ _ f)

pub fits_taken : (tokens : List ℕ) (r : Rest) → rest_fits tokens r ≡ true → is_left tokens r ≡ true
    → rest_fits tokens (without_first r) ≡ true
fits_taken tokens r f h = fits_first tokens r.inserted r.at r.edits f h

pub fits_inserted : (tokens : List ℕ) (token : ℕ) (r : Rest) → rest_fits tokens r ≡ true
    → rest_fits tokens (with_insertion token r) ≡ true
fits_inserted tokens token r f =
    let few = leb-true (length r.inserted) r.edits (first _ _ f) in
    let l = length-append r.inserted (token ∷ []) in
    join (le-leb (length (r.inserted ++ token ∷ [])) (r.edits + 1) (omega (arith, l, few)))
    (second _ _ f)

-- ---- one of the upcoming tokens

pub length-left : (tokens : List ℕ) (r : Rest)
    → length (rest_left tokens r) ≡ length r.inserted + (length tokens - r.at)
length-left tokens r =
    let a = length-append (map at_no_place (reverse r.inserted))
    (drop r.at (places_from 1 tokens)) in
    let b = length-map (reverse r.inserted) at_no_place in
    let c = length-reverse r.inserted in
    let d = length-drop r.at (places_from 1 tokens) in
    let e = length-places_from 1 tokens in
    omega (arith, a, b, c, d, e)

-- one that was read
pub left_read : (tokens : List ℕ) (r : Rest) (k : ℕ) → length r.inserted ≤ k
    → k < length (rest_left tokens r)
    → (r.at + (k - length r.inserted) < length tokens)
    × (get_or (rest_left tokens r) k (0, 0)
    ≡ (get_or tokens (r.at + (k - length r.inserted)) 0, r.at + (k - length r.inserted) + 1))
left_read tokens r k h i =
    let a = length-map (reverse r.inserted) at_no_place in
    let b = length-reverse r.inserted in
    let j = k - length r.inserted in
    let inside : r.at + j < length tokens = omega (arith, h, i, length-left tokens r) in
    let place : 1 + r.at + j ≡ r.at + j + 1 = omega arith in (
      inside,
      get_or-append_right (map at_no_place (reverse r.inserted)) (drop r.at (places_from 1 tokens))
          (length r.inserted) k (0, 0) (omega (arith, a, b)) h
          ∙ get-places_from 1 r.at j tokens inside
          ∙ ap (λ (n : ℕ). let pair : ℕ × ℕ = (get_or tokens (r.at + j) 0, n) in pair) place,
    )
