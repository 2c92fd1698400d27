-- What stands in a list, one element after another, and what tests, maps and filters make of it.
use Rattle.std.proofs.Common.{ℕ, zero, suc, ◌≡◌, ◌+◌, ◌<◌, ◌≤◌, ◌⊎◌, inl, inr, Bool, true, false}
use Rattle.std.proofs.Common.{◌&&◌, ◌||◌, List, [], ◌∷◌, length, map, get_or, refl, sym, ap, ◌∙◌}
use Rattle.std.proofs.Common.{arith, if◌then◌else◌}
use Rattle.std.specs.List.{Contains, filter, list_any, list_all, range_with_len}

-- x stands in the list
abbrev pub Among : {X : Type 0} → X → List X → Type 0
Among x [] = ⊥
Among x (y ∷ ys) = (y ≡ x) ⊎ Among x ys

pub among_contains : {X : Type 0} (x : X) (xs : List X) → Among x xs → Contains xs x
among_contains x [] h = absurd h
among_contains x (y ∷ ys) (inl e) = (0, omega arith, e)
among_contains x (y ∷ ys) (inr h) = let c = among_contains x ys h in
    (suc c.0, (let l = c.1 in omega (arith, l)), c.2)

pub contains_among : {X : Type 0} (x : X) (xs : List X) → Contains xs x → Among x xs
contains_among {X} x xs c = at xs c.0 c.1 c.2
  where
    at : (xs : List X) (n : ℕ) → n < length xs → get_or xs n x ≡ x → Among x xs
    at [] n l e = absurd (omega (arith, l))
    at (y ∷ ys) zero l e = inl e
    at (y ∷ ys) (suc n) l e = inr (at ys n (omega (arith, l)) e)

pub filter_among : {X : Type 0} (p : X → Bool) (x : X) (xs : List X) → Among x (filter p xs) →
    (p x ≡ true) × Among x xs
filter_among p x [] h = absurd h
filter_among {X} p x (y ∷ ys) h = go (p y) refl h (filter_among p x ys)
  where
    go : (b : Bool) → p y ≡ b → Among x (if b then y ∷ filter p ys else filter p ys) →
        (Among x (filter p ys) → (p x ≡ true) × Among x ys) → (p x ≡ true) × Among x (y ∷ ys)
    go true e (inl s) rec = (ap p (sym s) ∙ e, inl s)
    go true e (inr s) rec = let r = rec s in (r.0, inr r.1)
    go false e s rec = let r = rec s in (r.0, inr r.1)

-- what passes stays
pub among_filter : {X : Type 0} (p : X → Bool) (x : X) (xs : List X) → p x ≡ true → Among x xs →
    Among x (filter p xs)
among_filter p x [] e h = h
among_filter {X} p x (y ∷ ys) e h = go (p y) refl h (among_filter p x ys e)
  where
    go : (b : Bool) → p y ≡ b → (y ≡ x) ⊎ Among x ys → (Among x ys → Among x (filter p ys)) →
        Among x (if b then y ∷ filter p ys else filter p ys)
    go true k (inl s) rec = inl s
    go true k (inr s) rec = inr (rec s)
    go false k (inl s) rec = let same = ap p s in cc
    go false k (inr s) rec = rec s

pub map_among : {X Y : Type 0} (f : X → Y) (y : Y) (xs : List X) → Among y (map f xs) → (x : X) ×
    (f x ≡ y) × Among x xs
map_among f y [] h = absurd h
map_among f y (x ∷ xs) (inl e) = (x, e, inl refl)
map_among f y (x ∷ xs) (inr h) = let r = map_among f y xs h in (r.0, r.1, inr r.2)

pub among_map : {X Y : Type 0} (f : X → Y) (x : X) (xs : List X) → Among x xs →
    Among (f x) (map f xs)
among_map f x [] h = absurd h
among_map f x (y ∷ ys) (inl e) = inl (ap f e)
among_map f x (y ∷ ys) (inr h) = inr (among_map f x ys h)

pub any_among : {X : Type 0} (p : X → Bool) (xs : List X) → list_any p xs ≡ true → (x : X) ×
    (p x ≡ true) × Among x xs
any_among p [] h = cc
any_among {X} p (x ∷ xs) h = go (p x) refl h (any_among p xs)
  where
    go : (b : Bool) → p x ≡ b → (b || list_any p xs) ≡ true →
        (list_any p xs ≡ true → (y : X) × (p y ≡ true) × Among y xs) → (y : X) × (p y ≡ true) ×
        Among y (x ∷ xs)
    go true e h rec = (x, e, inl refl)
    go false e h rec = let r = rec h in (r.0, r.1, inr r.2)

-- where no test passes, none of what stands there does
pub none_among : {X : Type 0} (p : X → Bool) (x : X) (xs : List X) → list_any p xs ≡ false →
    Among x xs → p x ≡ false
none_among p x [] e h = absurd h
none_among {X} p x (y ∷ ys) e h = go (p y) refl e h (none_among p x ys)
  where
    go : (b : Bool) → p y ≡ b → (b || list_any p ys) ≡ false → (y ≡ x) ⊎ Among x ys →
        (list_any p ys ≡ false → Among x ys → p x ≡ false) → p x ≡ false
    go true k e h rec = cc
    go false k e (inl s) rec = ap p (sym s) ∙ k
    go false k e (inr s) rec = rec e s

pub among_none : {X : Type 0} (p : X → Bool) (xs : List X) → ((x : X) → Among x xs → p x ≡ false) →
    list_any p xs ≡ false
among_none p [] h = refl
among_none p (x ∷ xs) h =
    ap (λ b. b || list_any p xs) (h x (inl refl)) ∙ among_none p xs (λ y k. h y (inr k))

-- what passes is found
pub among_any : {X : Type 0} (p : X → Bool) (x : X) (xs : List X) → p x ≡ true → Among x xs →
    list_any p xs ≡ true
among_any {X} p x xs e h = go (list_any p xs) refl
  where
    go : (b : Bool) → list_any p xs ≡ b → list_any p xs ≡ true
    go true k = k
    go false k = let no = none_among p x xs k h in cc

pub all_among : {X : Type 0} (p : X → Bool) (x : X) (xs : List X) → list_all p xs ≡ true →
    Among x xs → p x ≡ true
all_among p x [] e h = absurd h
all_among {X} p x (y ∷ ys) e h = go (p y) refl e h (all_among p x ys)
  where
    go : (b : Bool) → p y ≡ b → (b && list_all p ys) ≡ true → (y ≡ x) ⊎ Among x ys →
        (list_all p ys ≡ true → Among x ys → p x ≡ true) → p x ≡ true
    go true k e (inl s) rec = ap p (sym s) ∙ k
    go true k e (inr s) rec = rec e s
    go false k e h rec = cc

-- the numbers of a range
pub among_range : (t from n : ℕ) → from ≤ t → t < from + n → Among t (range_with_len from n)
among_range t from zero a b = absurd (omega (arith, a, b))
among_range t from (suc n) a b =
    go (side from t a) (λ l. among_range t (from + 1) n l (omega (arith, b)))
  where
    side : (k t : ℕ) → k ≤ t → (k ≡ t) ⊎ (k + 1 ≤ t)
    side k t h = grind arith

    go : (from ≡ t) ⊎ (from + 1 ≤ t) → (from + 1 ≤ t → Among t (range_with_len (from + 1) n)) →
        (from ≡ t) ⊎ Among t (range_with_len (from + 1) n)
    go (inl e) rec = inl e
    go (inr l) rec = inr (rec l)

pub range_among : (t from n : ℕ) → Among t (range_with_len from n) → t < from + n
range_among t from zero h = absurd h
range_among t from (suc n) (inl e) = omega (arith, e)
range_among t from (suc n) (inr h) = let l = range_among t (from + 1) n h in omega (arith, l)
