-- Where a row can begin, and what its cells are then.
use Rattle.std.proofs.Common.{ℕ, zero, suc, ◌≡◌, ◌+◌, ◌-◌, ◌<◌, ◌≤◌, ◌⊎◌, inl, inr, Bool, true}
use Rattle.std.proofs.Common.{false, not, ◌&&◌, ◌||◌, cond, nat_eq, List, [], ◌∷◌, length}
use Rattle.std.proofs.Common.{get_or, max, refl, sym, ap, ◌∙◌, arith, Option, Some}
use Rattle.std.proofs.Common.{None}
use Rattle.std.proofs.Common.{is_some, unwrap_or, slice_index, if◌then◌else◌}
use Rattle.std.specs.List.{filter, list_any, range_with_len}
use Rattle.std.proofs.lemmas.Bool.{cases_Bool, and_parts, and_cases, and_right, or_cases}
use Rattle.std.proofs.lemmas.Bool.{or_left, or_right, not-true, not-false, eqb-true, eq-eqb, ne_eqb}
use Rattle.std.proofs.lemmas.Bool.{lt-leb, le-leb}
use Rattle.std.proofs.lemmas.List.{get_or_past, get_or_default}
use Rattle.std.proofs.lemmas.List.Folds.{list_any_at}
use Rattle.std.proofs.lemmas.List.FromFn.{length-map-range_with_len, get_or-map-range_with_len}
use Rattle.std.proofs.lemmas.List.FromFn.{length-range_with_len, get_or-range_with_len}
use Rattle.std.proofs.lemmas.List.Sums.{prefix_len_is}
use Rattle.ysymbols.proofs.NameSteps.{false_true}
use Rattle.ycode.specs.Packing.{PackingValue, Begins, IsPacking, IsEven, FitsAt, is_taken}
use Rattle.ycode.specs.Packing.{can_begin}
use Rattle.ycode.specs.Packing.{first_place, columns_in, number_there, with_row}
use Rattle.ycode.proofs.PackingSteps.{less_or_not, in_row}

-- some element passes one test, and so another
any_mono : {X : Type 0} (p q : X → Bool) → ((x : X) → p x ≡ true → q x ≡ true) → (xs : List X) →
    list_any p xs ≡ true → list_any q xs ≡ true
any_mono p q f [] h = absurd (false_true h)
any_mono p q f (x ∷ xs) h = go (or_cases (p x) (list_any p xs) h) (any_mono p q f xs)
  where
    go : (p x ≡ true) ⊎ (list_any p xs ≡ true) → (list_any p xs ≡ true → list_any q xs ≡ true) →
        (q x || list_any q xs) ≡ true
    go (inl a) again = or_left (q x) (list_any q xs) (f x a)
    go (inr b) again = or_right (q x) (list_any q xs) (again b)

-- an element that passes both tests is among those that pass the first
any_filter : (p q : ℕ → Bool) (xs : List ℕ) (i : ℕ) → i < length xs → p (get_or xs i 0) ≡ true →
    q (get_or xs i 0) ≡ true → list_any q (filter p xs) ≡ true
any_filter p q [] i l a b = absurd (omega arith)
any_filter p q (x ∷ xs) zero l a b =
    ap (λ t. list_any q (cond t (x ∷ filter p xs) (filter p xs))) a ∙
    or_left (q x) (list_any q (filter p xs)) b
any_filter p q (x ∷ xs) (suc i) l a b = go (cases_Bool (p x))
    (any_filter p q xs i (omega arith) a b)
  where
    go : (p x ≡ true) ⊎ (p x ≡ false) → list_any q (filter p xs) ≡ true →
        list_any q (cond (p x) (x ∷ filter p xs) (filter p xs)) ≡ true
    go (inl t) rest = ap (λ b. list_any q (cond b (x ∷ filter p xs) (filter p xs))) t ∙
        or_right (q x) (list_any q (filter p xs)) rest
    go (inr f) rest = ap (λ b. list_any q (cond b (x ∷ filter p xs) (filter p xs))) f ∙ rest

-- why a row can't begin
pub blocked_start : (p : PackingValue) (columns : List ℕ) (d : ℕ) → get_or p.begun d false ≡ true →
    can_begin p columns d ≡ false
blocked_start p columns d e =
    ap (λ (b : Bool). not b && not (list_any (λ t. is_taken p (d + t)) columns)) e

pub blocked_cell : (p : PackingValue) (columns : List ℕ) (d k : ℕ) → k < length columns →
    is_taken p (d + slice_index columns k) ≡ true → can_begin p columns d ≡ false
blocked_cell p columns d k l e = and_right (not (get_or p.begun d false))
    (not (list_any (λ t. is_taken p (d + t)) columns))
    (ap not (list_any_at (λ t. is_taken p (d + t)) columns k 0 l e))

-- where a row can begin, none begins and its cells are free
pub begins_there : (p : PackingValue) (columns : List ℕ) (d : ℕ) → can_begin p columns d ≡ true →
    get_or p.begun d false ≡ false
begins_there p columns d h = not-true (get_or p.begun d false) (and_parts
    (not (get_or p.begun d false)) (not (list_any (λ t. is_taken p (d + t)) columns)) h).0

pub fits_there : (p : PackingValue) (row : List (Option ℕ)) (d : ℕ) → length row ≡ p.width →
    can_begin p (columns_in row) d ≡ true → FitsAt p.checks row d
fits_there p row d wide h t k e l = go (cases_Bool (is_taken p (d + t)))
  where
    none : list_any (λ s. is_taken p (d + s)) (columns_in row) ≡ false
    none = not-true (list_any (λ s. is_taken p (d + s)) (columns_in row)) (and_parts
        (not (get_or p.begun d false))
        (not (list_any (λ s. is_taken p (d + s)) (columns_in row))) h).1

    low : t < length row
    low = in_row row t k e

    at : get_or (range_with_len 0 (length row)) t 0 ≡ t
    at = let z = get_or-range_with_len 0 (length row) t 0 low in omega (arith, z)

    go : (is_taken p (d + t) ≡ true) ⊎ (is_taken p (d + t) ≡ false) →
        slice_index p.checks (d + t) ≡ length row
    go (inl y) = absurd (false_true (sym none ∙ any_filter (λ s. is_some (get_or row s None))
        (λ s. is_taken p (d + s)) (range_with_len 0 (length row)) t
        (let n = length-range_with_len 0 (length row) in omega (arith, n, low))
        (ap (λ (s : ℕ). is_some (get_or row s None)) at ∙ ap is_some e)
        (ap (λ (s : ℕ). is_taken p (d + s)) at ∙ y)))
    go (inr n) = get_or_default p.checks (d + t) 0 p.width l ∙
        (eqb-true (get_or p.checks (d + t) p.width) p.width
        (not-false (nat_eq (get_or p.checks (d + t) p.width) p.width) n) ∙ sym wide)

-- no cell past the end is taken
pub free_past : (p : PackingValue) (i : ℕ) → length p.checks ≤ i → is_taken p i ≡ false
free_past p i l = ap (λ (x : ℕ). not (nat_eq x p.width)) (get_or_past p.checks i p.width l) ∙
    ap not (eq-eqb p.width p.width refl)

none_past : (p : PackingValue) (columns : List ℕ) (d : ℕ) → length p.checks ≤ d →
    list_any (λ t. is_taken p (d + t)) columns ≡ false
none_past p [] d l = refl
none_past p (x ∷ columns) d l =
    ap (λ (b : Bool). b || list_any (λ t. is_taken p (d + t)) columns)
    (free_past p (d + x) (omega (arith, l))) ∙ none_past p columns d l

-- at the end of the cells a row can begin
pub free_end : (p : PackingValue) (columns : List ℕ) →
    IsPacking p.width p.checks p.values p.begun → can_begin p columns (length p.checks) ≡ true
free_end p columns i = go (cases_Bool (get_or p.begun (length p.checks) false))
  where
    go : (get_or p.begun (length p.checks) false ≡ true) ⊎
        (get_or p.begun (length p.checks) false ≡ false) →
        can_begin p columns (length p.checks) ≡ true
    go (inl y) = absurd (let r = i.room (length p.checks) y in let s = i.some in
        omega (arith, r, s))
    go (inr n) = ap (λ (b : Bool). not b &&
        not (list_any (λ t. is_taken p (length p.checks + t)) columns)) n ∙
        ap not (none_past p columns (length p.checks) (omega arith))

-- the first place
pub first_is : (p : PackingValue) (columns : List ℕ) (r : ℕ) → r ≤ length p.checks →
    ((d : ℕ) → d < r → can_begin p columns d ≡ false) →
    (r < length p.checks → can_begin p columns r ≡ true) → r ≡ first_place p columns
first_is p columns r l none free = sym (prefix_len_is (λ (d : ℕ). not (can_begin p columns d))
    (range_with_len 0 (length p.checks)) r 0 (omega (arith, l, len))
    (λ k m. ap (λ (d : ℕ). not (can_begin p columns d)) (at k (omega (arith, m, l))) ∙
    ap not (none k m))
    (λ m. (let n : r < length p.checks = omega (arith, m, len) in
    ap (λ (d : ℕ). not (can_begin p columns d)) (at r n) ∙ ap not (free n))))
  where
    len : length (range_with_len 0 (length p.checks)) ≡ length p.checks
    len = length-range_with_len 0 (length p.checks)

    at : (k : ℕ) → k < length p.checks → get_or (range_with_len 0 (length p.checks)) k 0 ≡ k
    at k m = let z = get_or-range_with_len 0 (length p.checks) k 0 m in omega (arith, z)

-- what a row at d has at place i
there_is : (row : List (Option ℕ)) (d i n : ℕ) → number_there row d i ≡ Some n →
    (d ≤ i) × (i - d < length row)
there_is row d i n e = go (less_or_not i d)
  where
    go : (i < d) ⊎ (d ≤ i) → (d ≤ i) × (i - d < length row)
    go (inl l) = absurd (let f : None ≡ Some n =
        sym (ap (λ (b : Bool). if b then get_or row (i - d) None else None) (lt-leb d i l)) ∙ e in cc)
    go (inr l) = (
      l,
      in_row row (i - d) n
          (sym (ap (λ (b : Bool). if b then get_or row (i - d) None else None) (le-leb d i l)) ∙ e),
    )

there_none : (row : List (Option ℕ)) (d i : ℕ) → d + length row ≤ i → number_there row d i ≡ None
there_none row d i l =
    ap (λ (b : Bool). if b then get_or row (i - d) None else None) (le-leb d i (omega (arith, l))) ∙
    get_or_past row (i - d) None (omega (arith, l))

there_column : (row : List (Option ℕ)) (d t : ℕ) → number_there row d (d + t) ≡ get_or row t None
there_column row d t =
    ap (λ (b : Bool). if b then get_or row (d + t - d) None else None)
    (le-leb d (d + t) (omega arith)) ∙
    ap (λ (x : ℕ). get_or row x None) (let z : d + t - d ≡ t = omega arith in z)

module _ (p : PackingValue) (row : List (Option ℕ)) (d : ℕ) (wide : length row ≡ p.width) where
  abbrev size : ℕ
  size = max (length p.checks) (d + length row)

  abbrev check : ℕ → ℕ
  check i = if is_some (number_there row d i) then i - d else get_or p.checks i p.width

  -- a cell is taken if it was, or is the row's
  pub taken_is : (i : ℕ) → is_taken (with_row p row d) i ≡
      (is_some (number_there row d i) || is_taken p i)
  taken_is i = go (less_or_not i size)
    where
      inside : (o : Option ℕ) → number_there row d i ≡ o →
          not (nat_eq (if is_some o then i - d else get_or p.checks i p.width) p.width) ≡
          (is_some o || is_taken p i)
      inside None e = refl
      inside (Some n) e = let l = there_is row d i n e in
          ap not (ne_eqb (i - d) p.width (λ z. (let m = l.1 in omega (arith, m, z, wide))))

      go : (i < size) ⊎ (size ≤ i) → is_taken (with_row p row d) i ≡
          (is_some (number_there row d i) || is_taken p i)
      go (inl l) = ap (λ (x : ℕ). not (nat_eq x p.width))
          (get_or-map-range_with_len check 0 size i i p.width l (omega arith)) ∙
          inside (number_there row d i) refl
      go (inr l) = free_past (with_row p row d) i
          (let n = length-map-range_with_len check 0 size in omega (arith, n, l)) ∙
          (sym (free_past p i (omega (arith, l))) ∙
          sym (ap (λ (o : Option ℕ). is_some o || is_taken p i)
          (there_none row d i (omega (arith, l)))))

  pub taken_more : (i : ℕ) → is_taken p i ≡ true → is_taken (with_row p row d) i ≡ true
  taken_more i h = taken_is i ∙ or_right (is_some (number_there row d i)) (is_taken p i) h

  pub taken_there : (t : ℕ) → is_some (get_or row t None) ≡ true →
      is_taken (with_row p row d) (d + t) ≡ true
  taken_there t h = taken_is (d + t) ∙ or_left (is_some (number_there row d (d + t)))
      (is_taken p (d + t)) (ap is_some (there_column row d t) ∙ h)

  pub even_more : IsEven (with_row p row d)
  even_more = record {
    values = length-map-range_with_len (λ i. unwrap_or (number_there row d i) (slice_index p.values i))
        0 size ∙ sym (length-map-range_with_len check 0 size);
    begun = length-map-range_with_len (λ i. nat_eq i d || get_or p.begun i false) 0 size ∙
        sym (length-map-range_with_len check 0 size);
  }

  -- rows begin where they did, and at d
  begun_is : (i : ℕ) → i < size → get_or (with_row p row d).begun i false ≡
      (nat_eq i d || get_or p.begun i false)
  begun_is i l = get_or-map-range_with_len (λ i. nat_eq i d || get_or p.begun i false) 0 size i i
      false l (omega arith)

  pub begins_more : IsEven p → (i : ℕ) → Begins p.begun i → Begins (with_row p row d).begun i
  begins_more even i h = go (less_or_not i (length p.checks))
    where
      go : (i < length p.checks) ⊎ (length p.checks ≤ i) → Begins (with_row p row d).begun i
      go (inl l) = begun_is i (omega (arith, l)) ∙ or_right (nat_eq i d) (get_or p.begun i false) h
      go (inr l) = absurd (false_true (sym (get_or_past p.begun i false
          (let e = even.begun in omega (arith, e, l))) ∙ h))

  pub begins_here : 0 < p.width → Begins (with_row p row d).begun d
  begins_here some = begun_is d (omega (arith, some, wide)) ∙
      or_left (nat_eq d d) (get_or p.begun d false) (eq-eqb d d refl)

  -- a row that couldn't begin at a place can't now
  pub blocked_more : IsEven p → (columns : List ℕ) (e : ℕ) → can_begin p columns e ≡ false →
      can_begin (with_row p row d) columns e ≡ false
  blocked_more even columns e h = go (and_cases (not (get_or p.begun e false))
      (not (list_any (λ t. is_taken p (e + t)) columns)) h)
    where
      go : (not (get_or p.begun e false) ≡ false) ⊎
          (not (list_any (λ t. is_taken p (e + t)) columns) ≡ false) →
          can_begin (with_row p row d) columns e ≡ false
      go (inl b) = blocked_start (with_row p row d) columns e
          (begins_more even e (not-false (get_or p.begun e false) b))
      go (inr b) = and_right (not (get_or (with_row p row d).begun e false))
          (not (list_any (λ t. is_taken (with_row p row d) (e + t)) columns))
          (ap not (any_mono (λ t. is_taken p (e + t)) (λ t. is_taken (with_row p row d) (e + t))
          (λ t. taken_more (e + t)) columns
          (not-false (list_any (λ t. is_taken p (e + t)) columns) b)))
