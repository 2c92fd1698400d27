-- What is known of the places where rows can't begin, and how more is learned.
use Rattle.std.proofs.Common.{ℕ, ◌≡◌, ◌≢◌, ◌+◌, ◌-◌, ◌%◌, ◌^◌, ◌<◌, ◌≤◌, ◌⊎◌, inl, inr, true}
use Rattle.std.proofs.Common.{false}
use Rattle.std.proofs.Common.{List, [], ◌∷◌, ◌++◌, length, get_or, set, sym, ap, ◌∙◌, subst}
use Rattle.std.proofs.Common.{arith, Option, Some, slice_index, bit_or}
use Rattle.std.specs.Int.{bit_at, bit_not, w64, trailing_ones}
use Rattle.std.proofs.lemmas.Bool.{cases_eq}
use Rattle.std.proofs.lemmas.List.{get_or_append_left, get_or_push, get_or-set_same}
use Rattle.std.proofs.lemmas.List.{get_or-set_other, length_push, length-set}
use Rattle.std.proofs.lemmas.Nat.{trailing_le}
use Rattle.std.proofs.lemmas.Nat.Bits.{bit_at-trailing_ones, bit_at_ones, bit_at-zero}
use Rattle.ysymbols.specs.Names.{find_in, is_among, number_in}
use Rattle.ysymbols.proofs.NameSteps.{among_number, false_true}
use Rattle.ycode.specs.declared.finder.Finder.{Finder}
use Rattle.ycode.specs.Finder.{KnowsOf, KnowsNothing}
use Rattle.ycode.specs.Packing.{PackingValue, Begins, IsEven, is_taken, can_begin, with_row}
use Rattle.ycode.specs.Slots.{IsTaken, MeetsTaken, IsMoved}
use Rattle.ycode.proofs.BitSteps.{found_is, number_at}
use Rattle.ycode.proofs.EntrySteps.{below_or_last}
use Rattle.ycode.proofs.PackingSteps.{less_or_not}
use Rattle.ycode.proofs.PlaceSteps.{blocked_start, blocked_cell, free_past, taken_more, begins_more}
use Rattle.ycode.proofs.PlaceSteps.{blocked_more}
use Rattle.ycode.proofs.SlotSteps.{either_bit}

-- each place before the last row with these columns
pub before_last : (p : PackingValue) (f : Finder) → KnowsOf p f → (columns : List ℕ) (k : ℕ) →
    find_in f.shapes columns ≡ Some k → (k < length f.lasts.items) × ((d : ℕ) →
    d < slice_index f.lasts.items k → can_begin p columns d ≡ false)
before_last p f h columns k e =
    let is = found_is f.shapes columns k e in
    let among = among_number f.shapes columns is.0 in
    let low : k < length f.shapes = (let n = is.1 in omega (arith, among, n)) in
    let at : get_or f.shapes k [] ≡ columns =
    ap (λ (n : ℕ). get_or f.shapes n []) (sym is.1) ∙ number_at f.shapes columns is.0 in (
      (let c = h.count in omega (arith, c, low)),
      λ d l. subst (λ (x : List ℕ). can_begin p x d ≡ false) at (h.lasts k d low l),
    )

-- each place that would bring the first column before the first free cell
pub before_full : (p : PackingValue) (f : Finder) → KnowsOf p f → (columns : List ℕ) (d : ℕ) →
    0 < length columns → d < f.full - slice_index columns 0 → can_begin p columns d ≡ false
before_full p f h columns d some l = blocked_cell p columns d 0 some
    (h.full (d + slice_index columns 0) (omega (arith, l)))

-- a bit that is set says that a row can't begin there
module _ (p : PackingValue) (f : Finder) (h : KnowsOf p f) (columns : List ℕ) (d a b : ℕ)
    (cells : (i : ℕ) → i < 64 → bit_at a i ≡ 1 → MeetsTaken f.cells.items columns (d + i))
    (starts : (i : ℕ) → i < 64 → bit_at b i ≡ 1 → MeetsTaken f.starts.items (0 ∷ []) (d + i)) where
  bit_blocks : (i : ℕ) → i < 64 → bit_at (bit_or a b) i ≡ 1 → can_begin p columns (d + i) ≡ false
  bit_blocks i l e = go (either_bit a b i e)
    where
      go : (bit_at a i ≡ 1) ⊎ (bit_at b i ≡ 1) → can_begin p columns (d + i) ≡ false
      go (inl x) = let m = cells i l x in
          blocked_cell p columns (d + i) m.0 m.1 (h.cells (d + i + slice_index columns m.0) m.2)
      go (inr x) =
          let m = starts i l x in
          let k : m.0 ≡ 0 = (let s = m.1 in omega (arith, s)) in
          let at : d + i + slice_index (0 ∷ []) m.0 ≡ d + i =
          ap (λ (n : ℕ). d + i + slice_index (0 ∷ []) n) k ∙ (let z : d + i + 0 ≡ d + i = omega arith
          in z) in
          blocked_start p columns (d + i)
          (h.starts (d + i) (subst (IsTaken f.starts.items) at m.2))

  pub run_blocks : bit_or a b < 2 ^ 64 → (i : ℕ) → i < trailing_ones w64 (bit_or a b) →
      can_begin p columns (d + i) ≡ false
  run_blocks small i l = go (less_or_not (bit_or a b + 1) (2 ^ 64))
    where
      most : trailing_ones w64 (bit_or a b) ≤ 64
      most = trailing_le 64 (bit_not w64 (bit_or a b))

      go : (bit_or a b + 1 < 2 ^ 64) ⊎ (2 ^ 64 ≤ bit_or a b + 1) → can_begin p columns (d + i) ≡ false
      go (inl m) = bit_blocks i (omega (arith, l, most))
          ((bit_at-trailing_ones w64 (bit_or a b) m).2 i l)
      go (inr m) =
          let full : bit_or a b ≡ 2 ^ 64 - 1 = omega (arith, m, small) in
          bit_blocks i (omega (arith, l, most))
          (ap (λ (x : ℕ). bit_at x i) full ∙ bit_at_ones 64 i (omega (arith, l, most)))

-- nothing is known of any rows
pub knows_nothing : (p : PackingValue) (f : Finder) → KnowsNothing f → KnowsOf p f
knows_nothing p f (c, s, u, h, l) = record {
  cells = λ i t. absurd (none i (subst (λ (x : List ℕ). IsTaken x i) c t));
  starts = λ i t. absurd (none i (subst (λ (x : List ℕ). IsTaken x i) s t));
  full = λ i m. absurd (omega (arith, u, m));
  count = ap length l ∙ sym (ap length h);
  lasts = λ k d m n. absurd (let e = ap length h in omega (arith, e, m));
}
  where
    none : (i : ℕ) → IsTaken [] i → ⊥
    none i t = let z = bit_at-zero (i % 64) in omega (arith, z, t)

-- a taken cell is inside
pub taken_inside : (p : PackingValue) (i : ℕ) → is_taken p i ≡ true → i < length p.checks
taken_inside p i t = go (less_or_not i (length p.checks))
  where
    go : (i < length p.checks) ⊎ (length p.checks ≤ i) → i < length p.checks
    go (inl l) = l
    go (inr l) = absurd (false_true (sym (free_past p i l) ∙ t))

module _ (p : PackingValue) (f g : Finder) (h : KnowsOf p f) where
  -- a row is marked
  pub knows_row : (columns : List ℕ) (d : ℕ) → ((i : ℕ) → IsTaken g.cells.items i →
      IsMoved columns d i ⊎ IsTaken f.cells.items i) → ((i : ℕ) → IsTaken g.starts.items i →
      (i ≡ d) ⊎ IsTaken f.starts.items i) → g.full ≡ f.full → g.shapes ≡ f.shapes →
      g.lasts.items ≡ f.lasts.items → Begins p.begun d → ((k : ℕ) → k < length columns →
      is_taken p (d + slice_index columns k) ≡ true) → KnowsOf p g
  knows_row columns d c s u e l b t = record {
    cells = λ i m. cell i (c i m);
    starts = λ i m. start i (s i m);
    full = λ i m. h.full i (omega (arith, m, u));
    count = ap length l ∙ (h.count ∙ sym (ap length e));
    lasts = λ k i m n. subst (λ (x : List (List ℕ)). can_begin p (get_or x k []) i ≡ false) (sym e)
        (h.lasts k i (let z = ap length e in omega (arith, z, m))
        (let z = ap (λ (x : List ℕ). slice_index x k) l in omega (arith, z, n)));
  }
    where
      cell : (i : ℕ) → IsMoved columns d i ⊎ IsTaken f.cells.items i → is_taken p i ≡ true
      cell i (inl m) = ap (is_taken p) m.2 ∙ t m.0 m.1
      cell i (inr m) = h.cells i m

      start : (i : ℕ) → (i ≡ d) ⊎ IsTaken f.starts.items i → Begins p.begun i
      start i (inl m) = subst (Begins p.begun) (sym m) b
      start i (inr m) = h.starts i m

  module _ (c : g.cells.items ≡ f.cells.items) (s : g.starts.items ≡ f.starts.items) where
    same_cells : (i : ℕ) → IsTaken g.cells.items i → is_taken p i ≡ true
    same_cells i m = h.cells i (subst (λ (x : List ℕ). IsTaken x i) c m)

    same_starts : (i : ℕ) → IsTaken g.starts.items i → Begins p.begun i
    same_starts i m = h.starts i (subst (λ (x : List ℕ). IsTaken x i) s m)

    -- one more cell is passed
    pub knows_full : g.full ≡ f.full + 1 → g.shapes ≡ f.shapes → g.lasts.items ≡ f.lasts.items →
        is_taken p f.full ≡ true → KnowsOf p g
    knows_full u e l t = record {
      cells = same_cells;
      starts = same_starts;
      full = λ i m. full i (below_or_last i f.full (omega (arith, m, u)));
      count = ap length l ∙ (h.count ∙ sym (ap length e));
      lasts = λ k i m n. subst (λ (x : List (List ℕ)). can_begin p (get_or x k []) i ≡ false) (sym e)
          (h.lasts k i (let z = ap length e in omega (arith, z, m))
          (let z = ap (λ (x : List ℕ). slice_index x k) l in omega (arith, z, n)));
    }
      where
        full : (i : ℕ) → (i < f.full) ⊎ (i ≡ f.full) → is_taken p i ≡ true
        full i (inl m) = h.full i m
        full i (inr m) = ap (is_taken p) m ∙ t

    module _ (u : g.full ≡ f.full) (columns : List ℕ) (d : ℕ)
        (none : (e : ℕ) → e < d → can_begin p columns e ≡ false) where
      -- columns that are known get another place
      pub knows_again : (k : ℕ) → find_in f.shapes columns ≡ Some k → g.shapes ≡ f.shapes →
          g.lasts.items ≡ set f.lasts.items k d → KnowsOf p g
      knows_again k found e l = record {
        cells = same_cells;
        starts = same_starts;
        full = λ i m. h.full i (omega (arith, m, u));
        count = ap length l ∙ (length-set f.lasts.items k d ∙ (h.count ∙ sym (ap length e)));
        lasts = λ j i m n. subst (λ (x : List (List ℕ)). can_begin p (get_or x j []) i ≡ false)
            (sym e) (last j i (let z = ap length e in omega (arith, z, m)) n (cases_eq j k));
      }
        where
          is : (is_among f.shapes columns ≡ true) × (number_in f.shapes columns ≡ k)
          is = found_is f.shapes columns k found

          at : get_or f.shapes k [] ≡ columns
          at = ap (λ (n : ℕ). get_or f.shapes n []) (sym is.1) ∙ number_at f.shapes columns is.0

          last : (j i : ℕ) → j < length f.shapes → i < slice_index g.lasts.items j →
              (j ≡ k) ⊎ (j ≢ k) → can_begin p (get_or f.shapes j []) i ≡ false
          last j i m n (inl z) =
              let here : slice_index g.lasts.items j ≡ d =
              ap (λ (x : List ℕ). slice_index x j) l ∙ (ap (slice_index (set f.lasts.items k d)) z ∙
              get_or-set_same f.lasts.items k d 0
              (let c = h.count in omega (arith, c, m, z))) in
              subst (λ (x : List ℕ). can_begin p x i ≡ false)
              (sym (ap (λ (x : ℕ). get_or f.shapes x []) z ∙ at)) (none i (omega (arith, here, n)))
          last j i m n (inr z) =
              let there : slice_index g.lasts.items j ≡ slice_index f.lasts.items j =
              ap (λ (x : List ℕ). slice_index x j) l ∙
              get_or-set_other f.lasts.items k j d 0 z in
              h.lasts j i m (omega (arith, there, n))

      -- columns that weren't known
      pub knows_more : g.shapes ≡ f.shapes ++ columns ∷ [] →
          g.lasts.items ≡ f.lasts.items ++ d ∷ [] → KnowsOf p g
      knows_more e l = record {
        cells = same_cells;
        starts = same_starts;
        full = λ i m. h.full i (omega (arith, m, u));
        count = ap length l ∙ (length_push f.lasts.items d ∙
            (ap (λ (n : ℕ). n + 1) h.count ∙ sym (ap length e ∙ length_push f.shapes columns)));
        lasts = λ j i m n. subst (λ (x : List (List ℕ)). can_begin p (get_or x j []) i ≡ false)
            (sym e) (last j i n (below_or_last j (length f.shapes)
            (let z = ap length e in let y = length_push f.shapes columns in
            omega (arith, z, y, m))));
      }
        where
          last : (j i : ℕ) → i < slice_index g.lasts.items j →
              (j < length f.shapes) ⊎ (j ≡ length f.shapes) →
              can_begin p (get_or (f.shapes ++ columns ∷ []) j []) i ≡ false
          last j i n (inl m) =
              let there : slice_index g.lasts.items j ≡ slice_index f.lasts.items j =
              ap (λ (x : List ℕ). slice_index x j) l ∙
              get_or_append_left f.lasts.items (d ∷ []) 0 j
              (let c = h.count in omega (arith, c, m)) in
              subst (λ (x : List ℕ). can_begin p x i ≡ false)
              (sym (get_or_append_left f.shapes (columns ∷ []) [] j m))
              (h.lasts j i m (omega (arith, there, n)))
          last j i n (inr m) =
              let there : slice_index g.lasts.items j ≡ d =
              ap (λ (x : List ℕ). slice_index x j) l ∙
              get_or_push f.lasts.items d 0 j (h.count ∙ sym m) in
              subst (λ (x : List ℕ). can_begin p x i ≡ false)
              (sym (get_or_push f.shapes columns [] j (sym m))) (none i (omega (arith, there, n)))

-- what is known of rows is known of them and one more
pub knows_with : (p : PackingValue) (f : Finder) (row : List (Option ℕ)) (d : ℕ) →
    length row ≡ p.width → IsEven p → KnowsOf p f → KnowsOf (with_row p row d) f
knows_with p f row d wide even h = record {
  cells = λ i t. taken_more p row d wide i (h.cells i t);
  starts = λ i t. begins_more p row d wide even i (h.starts i t);
  full = λ i l. taken_more p row d wide i (h.full i l);
  count = h.count;
  lasts = λ k i l m. blocked_more p row d wide even (get_or f.shapes k []) i (h.lasts k i l m);
}

-- what holds below d and of n numbers from there holds below both
pub passed_all : (P : ℕ → Type 0) (d n : ℕ) → ((e : ℕ) → e < d → P e) →
    ((i : ℕ) → i < n → P (d + i)) → (e : ℕ) → e < d + n → P e
passed_all P d n f g e l = go (less_or_not e d)
  where
    go : (e < d) ⊎ (d ≤ e) → P e
    go (inl m) = f e m
    go (inr m) = let at : d + (e - d) ≡ e = omega (arith, m) in
        subst P at (g (e - d) (omega (arith, l, m)))

pub passed_next : (P : ℕ → Type 0) (at : ℕ) → ((e : ℕ) → e < at → P e) → P at → (e : ℕ) →
    e < at + 1 → P e
passed_next P at f p e l = go (below_or_last e at l)
  where
    go : (e < at) ⊎ (e ≡ at) → P e
    go (inl m) = f e m
    go (inr m) = subst P (sym m) p
