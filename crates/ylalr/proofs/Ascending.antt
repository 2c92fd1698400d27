-- Ascending lists with the same items are equal.
use Rattle.std.proofs.Common.{ℕ, zero, suc, ◌≡◌, ◌<◌, ◌↔◌, List, [], ◌∷◌, length, get_or, refl, sym}
use Rattle.std.proofs.Common.{◌∙◌, ap, subst, inl, inr, ◌⊎◌, arith}
use Rattle.std.specs.List.{Contains}
use Rattle.ylalr.specs.declared.items.Item.{Item}
use Rattle.ylalr.specs.Sets.{IsAscending, Before}

head_in : (i : Item) (xs : List Item) → Contains (i ∷ xs) i
head_in i xs = (0, omega arith, refl)

tail_in : (i j : Item) (xs : List Item) → Contains xs j → Contains (i ∷ xs) j
tail_in i j xs c = (suc c.0, (let h = c.1 in omega (arith, h)), c.2)

in_cases : (i j : Item) (xs : List Item) → Contains (i ∷ xs) j → (j ≡ i) ⊎ Contains xs j
in_cases i j xs c = go c.0 c.1 c.2
  where
    go : (k : ℕ) → k < suc (length xs) → get_or (i ∷ xs) k j ≡ j → (j ≡ i) ⊎ Contains xs j
    go zero h e = inl (sym e)
    go (suc k) h e = inr (k, omega arith, e)

before_tail : (i j : Item) (xs : List Item) → IsAscending (i ∷ xs) → Contains xs j → Before i j
before_tail i j xs a c =
    let h = c.1 in
    subst (Before i) c.2 (a 0 (suc c.0) j (omega arith) (omega (arith, h)))

ascending_tail : (i : Item) (xs : List Item) → IsAscending (i ∷ xs) → IsAscending xs
ascending_tail i xs a n m d h l = a (suc n) (suc m) d (omega arith) (omega arith)

not_both : (i j : Item) → Before i j → Before j i → ⊥
not_both i j (inl x) (inl y) = omega arith
not_both i j (inl x) (inr y) = omega (arith, y.0)
not_both i j (inr x) (inl y) = omega (arith, x.0)
not_both i j (inr x) (inr y) = omega (arith, x.1, y.1)

none_in : (j : Item) → Contains {X = Item} [] j → ⊥
none_in j c = let h = c.1 in omega (arith, h)

pub same_ascending : (xs ys : List Item) → IsAscending xs → IsAscending ys →
    ((i : Item) → Contains xs i ↔ Contains ys i) → xs ≡ ys
same_ascending [] [] a b f = refl
same_ascending [] (j ∷ ys) a b f = absurd (none_in j ((f j).1 (head_in j ys)))
same_ascending (i ∷ xs) [] a b f = absurd (none_in i ((f i).0 (head_in i xs)))
same_ascending (i ∷ xs) (j ∷ ys) a b f = ap (λ (t : Item). t ∷ xs) e ∙ ap (λ t. j ∷ t)
    (same_ascending xs ys (ascending_tail i xs a) (ascending_tail j ys b) (λ k. (down k, up k)))
  where
    one : (i ≡ j) ⊎ Contains ys i → (j ≡ i) ⊎ Contains xs j → i ≡ j
    one (inl p) q = p
    one (inr p) (inl q) = sym q
    one (inr p) (inr q) = absurd (not_both i j (before_tail i j xs a q) (before_tail j i ys b p))

    e : i ≡ j
    e = one (in_cases j i ys ((f i).0 (head_in i xs))) (in_cases i j xs ((f j).1 (head_in j ys)))

    down : (k : Item) → Contains xs k → Contains ys k
    down k c = go (in_cases j k ys ((f k).0 (tail_in i k xs c)))
      where
        go : (k ≡ j) ⊎ Contains ys k → Contains ys k
        go (inl p) = let z : Before i i = subst (Before i) (p ∙ sym e) (before_tail i k xs a c) in
            absurd (not_both i i z z)
        go (inr p) = p

    up : (k : Item) → Contains ys k → Contains xs k
    up k c = go (in_cases i k xs ((f k).1 (tail_in j k ys c)))
      where
        go : (k ≡ i) ⊎ Contains xs k → Contains xs k
        go (inl p) = let z : Before j j = subst (Before j) (p ∙ e) (before_tail j k ys b c) in
            absurd (not_both j j z z)
        go (inr p) = p
