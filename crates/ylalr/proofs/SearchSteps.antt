-- What binary search finds in ascending lists.
use Rattle.std.proofs.Common.{ℕ, zero, suc, ◌≡◌, ◌≢◌, ◌<◌, ◌≤◌, ◌⊎◌, ◌==◌, List, [], ◌∷◌, length}
use Rattle.std.proofs.Common.{get_or, refl, sym, ◌∙◌, ap, subst, inl, inr, arith, Some, None}
use Rattle.std.proofs.Common.{Result}
use Rattle.std.proofs.Common.{Ok, Err, MatchOption, if◌then◌else◌}
use Rattle.std.specs.List.{Contains}
use Rattle.std.specs.List.Sorted.{IsSearchInRange, IsBinarySearchResult, IsNonDecreasingBy}
use Rattle.std.proofs.Common.{Ordering, Less, Equal, Greater}
use Rattle.std.specs.Ordering.{nat_cmp, ordering_index, ordering_then}
use Rattle.std.specs.Result.{result_ok}
use Rattle.std.proofs.lemmas.Bool.Decides.{nat_tests}
use Rattle.ylalr.specs.declared.items.Item.{Item}
use Rattle.ylalr.specs.declared.gotos.Goto.{Goto}
use Rattle.ylalr.specs.Sets.{Before, IsAscending, IsAt}
use Rattle.ylalr.specs.Gotos.{lookup, IsAscendingRow}
use Rattle.std.proofs.lemmas.Bool.{cases_lt}

-- where the answers rise, what isn't found isn't there
not_found : {X : Type 0} (ord : X → Ordering) (xs : List X) (at j : ℕ) (d : X) →
    IsNonDecreasingBy (λ y. ordering_index (ord y)) xs → IsBinarySearchResult ord xs (Err at) →
    j < length xs → ord (get_or xs j d) ≡ Equal → ⊥
not_found ord xs at j d rises parted h e = go (cases_lt j at)
  where
    go : (j < at) ⊎ (at ≤ j) → ⊥
    go (inl l) = let y : ord (get_or xs j d) ≡ Less = (parted rises).0 j d (omega arith) l in
        absurd (cc)
    go (inr l) = let y : ord (get_or xs j d) ≡ Greater = (parted rises).1 j d l h in absurd (cc)

-- how an item stands to another, by rule and then by dot
abbrev pub item_cmp : Item → Item → Ordering
item_cmp i k = ordering_then (nat_cmp i.rule k.rule) (nat_cmp i.dot k.dot)

item_cmp_rises : (i j k : Item) → Before i j → ordering_index (item_cmp i k) ≤ ordering_index
    (item_cmp j k)
item_cmp_rises i j k (inl h) = grind (arith, nat_tests)
item_cmp_rises i j k (inr h) = let a = h.0 in let b = h.1 in grind (arith, nat_tests)

item_cmp_same : (i : Item) → item_cmp i i ≡ Equal
item_cmp_same i = grind (arith, nat_tests)

item_cmp_equal : (i k : Item) → item_cmp i k ≡ Equal → i ≡ k
item_cmp_equal i k e =
    let r : i.rule ≡ k.rule = grind (arith, nat_tests) in
    let d : i.dot ≡ k.dot = grind (arith, nat_tests) in
    λ p. record { rule = r p; dot = d p }

pub item_found : (xs : List Item) (i : Item) (r : Result ℕ ℕ) → IsAscending xs →
    IsSearchInRange r (length xs) → IsBinarySearchResult (λ y. item_cmp y i) xs r →
    MatchOption (result_ok r) (Contains xs i → ⊥) (λ k. IsAt xs i k)
item_found xs i (Ok k) a h e = (h, item_cmp_equal (get_or xs k i) i (e i))
item_found xs i (Err k) a h e = λ c. not_found (λ y. item_cmp y i) xs k c.0 i rises e c.1
    (ap (λ y. item_cmp y i) c.2 ∙ item_cmp_same i)
  where
    upto : (j k : ℕ) → j ≤ k → (j < k) ⊎ (j ≡ k)
    upto j k h = grind arith

    rises : IsNonDecreasingBy (λ y. ordering_index (item_cmp y i)) xs
    rises j k d l w = go (upto j k l)
      where
        go : (j < k) ⊎ (j ≡ k) → ordering_index (item_cmp (get_or xs j d) i) ≤ ordering_index
            (item_cmp (get_or xs k d) i)
        go (inl z) = item_cmp_rises (get_or xs j d) (get_or xs k d) i (a j k d z w)
        go (inr z) = subst (λ t. ordering_index (item_cmp (get_or xs j d) i) ≤ ordering_index
            (item_cmp (get_or xs t d) i)) z (omega arith)

test_other : {X : Type 0} (a b : ℕ) (x y : X) → a ≢ b → (if a == b then x else y) ≡ y
test_other a b x y n = grind (arith, nat_tests)

test_same : {X : Type 0} (a b : ℕ) (x y : X) → a ≡ b → (if a == b then x else y) ≡ x
test_same a b x y n = grind (arith, nat_tests)

tail_row : (t : Goto) (row : List Goto) → IsAscendingRow (t ∷ row) → IsAscendingRow row
tail_row t row a i j d h l = a (suc i) (suc j) d (omega arith) (omega arith)

-- a row by symbol answers what it has at the symbol
pub lookup_at : (row : List Goto) (k x : ℕ) (d : Goto) → IsAscendingRow row → k < length row →
    (get_or row k d).symbol ≡ x → lookup row x ≡ Some (get_or row k d).state
lookup_at [] k x d a h e = absurd (omega arith)
lookup_at (t ∷ row) zero x d a h e = test_same t.symbol x (Some t.state) (lookup row x) e
lookup_at (t ∷ row) (suc k) x d a h e =
    let l : t.symbol < (get_or row k d).symbol = a 0 (suc k) d (omega arith) h in
    test_other t.symbol x (Some t.state) (lookup row x) (omega arith) ∙ lookup_at row k x d
    (tail_row t row a) (omega arith) e

pub lookup_not : (row : List Goto) (x : ℕ) → ((k : ℕ) (d : Goto) → k < length row →
    (get_or row k d).symbol ≢ x) → lookup row x ≡ None
lookup_not [] x n = refl
lookup_not (t ∷ row) x n = test_other t.symbol x (Some t.state) (lookup row x) (n 0 t (omega arith))
    ∙ lookup_not row x (λ k d h. n (suc k) d (omega arith))

pub row_found : (row : List Goto) (x k : ℕ) (d : Goto) → IsAscendingRow row → k < length row →
    IsBinarySearchResult (λ (y : Goto). nat_cmp y.symbol x) row (Ok k) →
    Some (get_or row k d).state ≡ lookup row x
row_found row x k d a h e = sym (lookup_at row k x d a h (same (get_or row k d).symbol x (e d)))
  where
    same : (s x : ℕ) → nat_cmp s x ≡ Equal → s ≡ x
    same s x e = grind (arith, nat_tests)

pub row_none : (row : List Goto) (x k : ℕ) → IsAscendingRow row →
    IsBinarySearchResult (λ (y : Goto). nat_cmp y.symbol x) row (Err k) → None ≡ lookup row x
row_none row x k a e = sym (lookup_not row x (λ j d h s.
    not_found (λ (y : Goto). nat_cmp y.symbol x) row k j d rises e h
    (equal (get_or row j d).symbol x s)))
  where
    equal : (s x : ℕ) → s ≡ x → nat_cmp s x ≡ Equal
    equal s x e = grind (arith, nat_tests)

    index : (s t x : ℕ) → s ≤ t → ordering_index (nat_cmp s x) ≤ ordering_index (nat_cmp t x)
    index s t x h = grind (arith, nat_tests)

    upto : (j k : ℕ) (d : Goto) → j ≤ k → k < length row → (j < k) ⊎ (j ≡ k) →
        (get_or row j d).symbol ≤ (get_or row k d).symbol
    upto j k d l w (inl z) = let y = a j k d z w in omega arith
    upto j k d l w (inr z) = subst (λ t. (get_or row j d).symbol ≤ (get_or row t d).symbol) z
        (omega arith)

    split : (j k : ℕ) → j ≤ k → (j < k) ⊎ (j ≡ k)
    split j k h = grind arith

    rises : IsNonDecreasingBy (λ (y : Goto). ordering_index (nat_cmp y.symbol x)) row
    rises j k d l w = index (get_or row j d).symbol (get_or row k d).symbol x
        (upto j k d l w (split j k l))
