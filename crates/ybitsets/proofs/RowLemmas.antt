-- What a word united with another does to the bits of rows, and to the room that is left.
use Rattle.std.proofs.Common.{ℕ, ◌≡◌, ◌≢◌, ◌<◌, ◌≤◌, ◌+◌, ◌-◌, ◌*◌, ◌/◌, ◌%◌, ◌^◌, ◌⊎◌, ◌↔◌, length}
use Rattle.std.proofs.Common.{get_or, sym, ◌∙◌, ap, subst, inl, inr, arith, max, bit_or}
use Rattle.std.proofs.Common.{get_or-set_same, get_or-set_other, Bool, true, false, ◌||◌}
use Rattle.std.specs.Int.{bit_at, trailing_zeros, w64}
use Rattle.std.specs.Int.Count.{trailing_of_zero}
use Rattle.std.proofs.Math.Nat.{div-div-eq-div-mul, eq-zero-or-pos}
use Rattle.std.proofs.Math.ListN.{set, length-set}
use Rattle.std.proofs.lemmas.Nat.{le_or_l, same_from_place, one_shl, div-add-mod', mod_below}
use Rattle.std.proofs.lemmas.Nat.{mul-add-lt, pow-add}
use Rattle.std.proofs.lemmas.Nat.Bits.{bit_at_or, bit_at-lt, bit_at-pow_same, bit_at-pow_other}
use Rattle.std.proofs.lemmas.Nat.Bits.{bit_at-zero, bit_at-trailing_zeros}
use Rattle.std.proofs.lemmas.List.Sums.{sum_by-set}
use Rattle.ybitsets.specs.Rows.{BitRows, IsBitRows, Holds, word_of, room, unite, AddsFrom, GrowsIf}
use Rattle.ybitsets.proofs.Growth.{less_then, same_then}
use Rattle.ysymbols.proofs.Numbers.{below_or_last}
use Rattle.std.proofs.lemmas.Bool.{cases_eq}

less : ℕ → ℕ
less w = 2 ^ 64 - 1 - w

pub room_le : (m : BitRows) (at more : ℕ) → at < length m.words → room (unite m at more) ≤ room m
room_le m at more h =
    let e = sum_by-set (λ w. 2 ^ 64 - 1 - w) m.words at (bit_or (get_or m.words at 0) more) 0 h in
    let l = le_or_l (get_or m.words at 0) more in
    omega arith

pub room_lt : (m : BitRows) (at more : ℕ) → at < length m.words → bit_or (get_or m.words at 0) more
    < 2 ^ 64 → bit_or (get_or m.words at 0) more ≢ get_or m.words at 0 →
    room (unite m at more) < room m
room_lt m at more h k n =
    let e = sum_by-set (λ w. 2 ^ 64 - 1 - w) m.words at (bit_or (get_or m.words at 0) more) 0 h in
    let l = le_or_l (get_or m.words at 0) more in
    omega arith

-- the rows with another word
abbrev pub worded : BitRows → ℕ → ℕ → BitRows
worded m at w = record {
  height = m.height;
  width = m.width;
  span = m.span;
  words =
      set m.words at w;
}

-- a word by equal rows
pub word_united : (v m : BitRows) (at more w : ℕ) → v ≡ m → w ≡ get_or m.words at 0 →
    worded v at (bit_or w more) ≡ unite m at more
word_united v m at more w e f = ap (λ (v : BitRows). worded v at (bit_or w more)) e
    ∙ ap (λ w. worded m at (bit_or w more)) f

-- a word of a row by equal rows
pub row_united : (v n : BitRows) {new : BitRows} (to k x : ℕ) →
    new ≡ unite n (to * v.span + k) x → v ≡ n → new ≡ unite n (to * n.span + k) x
row_united v n to k x e f = e ∙ ap (λ (v : BitRows). unite n (to * v.span + k) x) f

-- a number in the span of equal rows
pub within_span : (v m n : BitRows) (k : ℕ) → k < v.span → v ≡ m → n.span ≡ m.span → k < n.span
within_span v m n k h e f = subst (λ t. k < t) (ap (λ (v : BitRows). v.span) e ∙ sym f) h

-- whether bit k of a word is set
abbrev pub BitIs : ℕ → ℕ → Type 0
BitIs w k = bit_at w k ≡ 1

max_cases : (a b : ℕ) → a < 2 → b < 2 → max a b ≡ 1 → (a ≡ 1) ⊎ (b ≡ 1)
max_cases a b h k e = grind arith

max_left : (a b : ℕ) → b < 2 → a ≡ 1 → max a b ≡ 1
max_left a b k e = omega arith

max_right : (a b : ℕ) → a < 2 → b ≡ 1 → max a b ≡ 1
max_right a b k e = omega arith

pub in_span : (m : BitRows) → IsBitRows m → (c : ℕ) → c < m.width → c / 64 < m.span
in_span m f c h =
    let w = f.wide in
    let a = div-add-mod' c 64 in
    let b = div-add-mod' m.width 64 in
    let d = mod_below m.width 64 (omega arith) in
    omega arith

-- what is so of the bits of the word with column k of row i, after the word j of row r is united
-- with more
pub unite_holds : (m : BitRows) → IsBitRows m → (r j more : ℕ) → r < m.height → j < m.span →
    (i k : ℕ) → Holds (unite m (r * m.span + j) more) i k ↔ (Holds m i k ⊎
    ((i ≡ r) × (k < m.width) × (k / 64 ≡ j) × (bit_at more (k % 64) ≡ 1)))
unite_holds m f r j more hr hj i k = (to, from)
  where
    at : ℕ
    at = r * m.span + j

    n : BitRows
    n = unite m (r * m.span + j) more

    within : r * m.span + j < length m.words
    within = let e = f.sized in let z = mul-add-lt r m.span j m.height hr hj in grind arith

    -- the word of the row is the united one, or another
    word_same : (k < m.width) → (i < m.height) → (i * m.span + k / 64 ≡ r * m.span + j) →
        word_of (unite m (r * m.span + j) more) i k ≡ bit_or (word_of m i k) more
    word_same hk hi e = rw e (get_or-set_same m.words (r * m.span + j)
        (bit_or (get_or m.words (r * m.span + j) 0) more) 0 within)

    word_other : (i * m.span + k / 64 ≢ r * m.span + j) → word_of (unite m (r * m.span + j) more) i
        k ≡ word_of m i k
    word_other e = get_or-set_other m.words (r * m.span + j) (i * m.span + k / 64)
        (bit_or (get_or m.words (r * m.span + j) 0) more) 0 e

    to : Holds (unite m (r * m.span + j) more) i k → Holds m i k ⊎
        ((i ≡ r) × (k < m.width) × (k / 64 ≡ j) × (bit_at more (k % 64) ≡ 1))
    to h = go (cases_eq (i * m.span + k / 64) (r * m.span + j))
      where
        pick : (i * m.span + k / 64 ≡ r * m.span + j) → (bit_at (word_of m i k) (k % 64) ≡ 1) ⊎
            (bit_at more (k % 64) ≡ 1) → Holds m i k ⊎ ((i ≡ r) × (k < m.width) × (k / 64 ≡ j) ×
            (bit_at more (k % 64) ≡ 1))
        pick e (inl b) = inl (record { row = h.row; column = h.column; bit = b })
        pick e (inr b) =
            let s = same_from_place i (k / 64) r j m.span (in_span m f k h.column) hj e in
            inr (s.0, h.column, s.1, b)

        go : (i * m.span + k / 64 ≡ r * m.span + j) ⊎ (i * m.span + k / 64 ≢ r * m.span + j) →
            Holds m i k ⊎ ((i ≡ r) × (k < m.width) × (k / 64 ≡ j) × (bit_at more (k % 64) ≡ 1))
        go (inl e) = pick e (max_cases (bit_at (word_of m i k) (k % 64)) (bit_at more (k % 64))
            (bit_at-lt (word_of m i k) (k % 64)) (bit_at-lt more (k % 64))
            (sym (bit_at_or (word_of m i k) more (k % 64)) ∙ ap (λ w. bit_at w (k % 64))
            (sym (word_same h.column h.row e)) ∙ h.bit))
        go (inr e) = inl (record {
          row = h.row;
          column = h.column;
          bit = ap (λ w. bit_at w (k % 64))
              (sym (word_other e)) ∙ h.bit;
        })

    from : Holds m i k ⊎ ((i ≡ r) × (k < m.width) × (k / 64 ≡ j) × (bit_at more (k % 64) ≡ 1)) →
        Holds (unite m (r * m.span + j) more) i k
    from (inl h) = record {
      row = h.row;
      column = h.column;
      bit =
          go (cases_eq (i * m.span + k / 64) (r * m.span + j));
    }
      where
        go : (i * m.span + k / 64 ≡ r * m.span + j) ⊎ (i * m.span + k / 64 ≢ r * m.span + j) →
            bit_at (word_of (unite m (r * m.span + j) more) i k) (k % 64) ≡ 1
        go (inl e) = ap (λ w. bit_at w (k % 64)) (word_same h.column h.row e) ∙ bit_at_or
            (word_of m i k) more (k % 64) ∙ max_left (bit_at (word_of m i k) (k % 64))
            (bit_at more (k % 64)) (bit_at-lt more (k % 64)) h.bit
        go (inr e) = ap (λ w. bit_at w (k % 64)) (word_other e) ∙ h.bit
    from (inr h) =
        let e : i * m.span + k / 64 ≡ r * m.span + j = ap (λ (t : ℕ). t * m.span + k / 64) h.0 ∙ ap
        (λ (t : ℕ). r * m.span + t) h.2 in
        let hi : i < m.height = subst (λ t. t < m.height) (sym h.0) hr in
        record {
          row = hi;
          column = h.1;
          bit = ap (λ w. bit_at w (k % 64)) (word_same h.1 hi e) ∙
              bit_at_or (word_of m i k) more (k % 64) ∙ max_right (bit_at (word_of m i k) (k % 64))
              (bit_at more (k % 64)) (bit_at-lt (word_of m i k) (k % 64)) h.3;
        }

pub united_fits : (m : BitRows) (at more : ℕ) → IsBitRows m → IsBitRows (unite m at more)
united_fits m at more f = record {
  sized = length-set m.words at (bit_or (get_or m.words at 0) more)
      ∙ f.sized;
  wide = f.wide;
}

-- one bit is set
pub mark_holds : (m : BitRows) → IsBitRows m → (r c : ℕ) → r < m.height → c < m.width →
    (i k : ℕ) → Holds (unite m (r * m.span + c / 64) ((1 * 2 ^ (c % 64)) % 2 ^ 64)) i k ↔
    (Holds m i k ⊎ ((i ≡ r) × (k ≡ c)))
mark_holds m f r c hr hc i k = (to, from)
  where
    one : (1 * 2 ^ (c % 64)) % 2 ^ 64 ≡ 2 ^ (c % 64)
    one = one_shl (c % 64) 64 (mod_below c 64 (omega arith))

    u : Holds (unite m (r * m.span + c / 64) ((1 * 2 ^ (c % 64)) % 2 ^ 64)) i k ↔ (Holds m i k ⊎
        ((i ≡ r) × (k < m.width) × (k / 64 ≡ c / 64) ×
        (bit_at ((1 * 2 ^ (c % 64)) % 2 ^ 64) (k % 64) ≡ 1)))
    u = unite_holds m f r (c / 64) ((1 * 2 ^ (c % 64)) % 2 ^ 64) hr (in_span m f c hc) i k

    bit_place : bit_at ((1 * 2 ^ (c % 64)) % 2 ^ 64) (k % 64) ≡ 1 → k % 64 ≡ c % 64
    bit_place b = go (cases_eq (k % 64) (c % 64))
      where
        go : (k % 64 ≡ c % 64) ⊎ (k % 64 ≢ c % 64) → k % 64 ≡ c % 64
        go (inl e) = e
        go (inr e) = absurd (let z : bit_at ((1 * 2 ^ (c % 64)) % 2 ^ 64) (k % 64) ≡ 0 =
            ap (λ w. bit_at w (k % 64)) one ∙ bit_at-pow_other (c % 64) (k % 64) e in omega arith)

    to : Holds (unite m (r * m.span + c / 64) ((1 * 2 ^ (c % 64)) % 2 ^ 64)) i k → Holds m i k ⊎
        ((i ≡ r) × (k ≡ c))
    to h = go (u.0 h)
      where
        go : Holds m i k ⊎ ((i ≡ r) × (k < m.width) × (k / 64 ≡ c / 64) ×
            (bit_at ((1 * 2 ^ (c % 64)) % 2 ^ 64) (k % 64) ≡ 1)) → Holds m i k ⊎ ((i ≡ r) × (k ≡ c))
        go (inl x) = inl x
        go (inr x) =
            let p = bit_place x.3 in
            let q = x.2 in
            let a = div-add-mod' k 64 in
            let b = div-add-mod' c 64 in
            inr (x.0, omega arith)

    from : Holds m i k ⊎ ((i ≡ r) × (k ≡ c)) →
        Holds (unite m (r * m.span + c / 64) ((1 * 2 ^ (c % 64)) % 2 ^ 64)) i k
    from (inl x) = u.1 (inl x)
    from (inr x) = u.1 (inr (
      x.0,
      subst (λ t. t < m.width) (sym x.1) hc,
      ap (λ (t : ℕ). t / 64) x.1,
      ap (λ (t : ℕ). bit_at ((1 * 2 ^ (c % 64)) % 2 ^ 64) (t % 64)) x.1 ∙ ap
          (λ w. bit_at w (c % 64)) one ∙ bit_at-pow_same (c % 64),
    ))

-- n has in row `to` also the columns of P whose words are before k
abbrev pub AddsWords : BitRows → BitRows → ℕ → (ℕ → Type 0) → ℕ → Type 0
AddsWords m n to P k = (r c : ℕ) → Holds n r c ↔ (Holds m r c ⊎
    ((r ≡ to) × (c < m.width) × (c / 64 < k) × P c))

pub adds_none : (m : BitRows) (to : ℕ) (P : ℕ → Type 0) → AddsWords m m to P 0
adds_none m to P r c = ((λ h. inl h), back)
  where
    back : Holds m r c ⊎ ((r ≡ to) × (c < m.width) × (c / 64 < 0) × P c) → Holds m r c
    back (inl h) = h
    back (inr h) = absurd (let l = h.2 in omega arith)

pub adds_word : (m n : BitRows) → IsBitRows n → (to k more : ℕ) (P : ℕ → Type 0) →
    n.width ≡ m.width → to < n.height → k < n.span → AddsWords m n to P k →
    ((c : ℕ) → c < m.width → c / 64 ≡ k → bit_at more (c % 64) ≡ 1 ↔ P c) →
    AddsWords m (unite n (to * n.span + k) more) to P (k + 1)
adds_word m n f to k more P same ht hk a b r c = (down, up)
  where
    u : Holds (unite n (to * n.span + k) more) r c ↔ (Holds n r c ⊎
        ((r ≡ to) × (c < n.width) × (c / 64 ≡ k) × (bit_at more (c % 64) ≡ 1)))
    u = unite_holds n f to k more ht hk r c

    down : Holds (unite n (to * n.span + k) more) r c → Holds m r c ⊎
        ((r ≡ to) × (c < m.width) × (c / 64 < k + 1) × P c)
    down h = go (u.0 h)
      where
        old : Holds m r c ⊎ ((r ≡ to) × (c < m.width) × (c / 64 < k) × P c) → Holds m r c ⊎
            ((r ≡ to) × (c < m.width) × (c / 64 < k + 1) × P c)
        old (inl x) = inl x
        old (inr x) = inr (x.0, x.1, (let l = x.2 in omega arith), x.3)

        go : Holds n r c ⊎ ((r ≡ to) × (c < n.width) × (c / 64 ≡ k) × (bit_at more (c % 64) ≡ 1)) →
            Holds m r c ⊎ ((r ≡ to) × (c < m.width) × (c / 64 < k + 1) × P c)
        go (inl x) = old ((a r c).0 x)
        go (inr x) = let l : c < m.width = subst (λ t. c < t) same x.1 in
            inr (x.0, l, (let e = x.2 in omega arith), (b c l x.2).0 x.3)

    up : Holds m r c ⊎ ((r ≡ to) × (c < m.width) × (c / 64 < k + 1) × P c) →
        Holds (unite n (to * n.span + k) more) r c
    up (inl x) = u.1 (inl ((a r c).1 (inl x)))
    up (inr x) = go (below_or_last (c / 64) k x.2)
      where
        go : (c / 64 < k) ⊎ (c / 64 ≡ k) → Holds (unite n (to * n.span + k) more) r c
        go (inl l) = u.1 (inl ((a r c).1 (inr (x.0, x.1, l, x.3))))
        go (inr e) = u.1 (inr (x.0, subst (λ t. c < t) (sym same) x.1, e, (b c x.1 e).1 x.3))

-- the bits of a word of a row are the row's columns there
pub word_bits : (m : BitRows) (from k c : ℕ) → from < m.height → c < m.width → c / 64 ≡ k →
    bit_at (get_or m.words (from * m.span + k) 0) (c % 64) ≡ 1 ↔ Holds m from c
word_bits m from k c hf hc e = (
  (λ b. record {
    row = hf;
    column = hc;
    bit =
        ap (λ (t : ℕ). bit_at (get_or m.words (from * m.span + t) 0) (c % 64)) e ∙ b;
  }),
  (λ h. ap (λ (t : ℕ). bit_at (get_or m.words (from * m.span + t) 0) (c % 64)) (sym e) ∙ h.bit),
)

-- the same, of rows to which the row itself is being added
pub own_bits : (m n : BitRows) (to from k c : ℕ) → n.height ≡ m.height → n.width ≡ m.width →
    from < m.height → AddsWords m n to (Holds m from) k → c < m.width → c / 64 ≡ k →
    bit_at (get_or n.words (from * n.span + k) 0) (c % 64) ≡ 1 ↔ Holds m from c
own_bits m n to from k c eh ew hf a hc e = (down, up)
  where
    w : bit_at (get_or n.words (from * n.span + k) 0) (c % 64) ≡ 1 ↔ Holds n from c
    w = word_bits n from k c (subst (λ t. from < t) (sym eh) hf) (subst (λ t. c < t) (sym ew) hc) e

    down : bit_at (get_or n.words (from * n.span + k) 0) (c % 64) ≡ 1 → Holds m from c
    down b = go ((a from c).0 (w.0 b))
      where
        go : Holds m from c ⊎ ((from ≡ to) × (c < m.width) × (c / 64 < k) × Holds m from c) →
            Holds m from c
        go (inl x) = x
        go (inr x) = x.3

    up : Holds m from c → bit_at (get_or n.words (from * n.span + k) 0) (c % 64) ≡ 1
    up h = w.1 ((a from c).1 (inl h))

-- all words of the row were added
pub adds_whole : (m n other : BitRows) → IsBitRows m → (to from k : ℕ) → k ≡ m.span →
    other.width ≡ m.width → AddsWords m n to (Holds other from) k → AddsFrom m n to other from
adds_whole m n other f to from k e same a r c = (down, up)
  where
    down : Holds n r c → Holds m r c ⊎ ((r ≡ to) × Holds other from c)
    down h = go ((a r c).0 h)
      where
        go : Holds m r c ⊎ ((r ≡ to) × (c < m.width) × (c / 64 < k) × Holds other from c) →
            Holds m r c ⊎ ((r ≡ to) × Holds other from c)
        go (inl x) = inl x
        go (inr x) = inr (x.0, x.3)

    up : Holds m r c ⊎ ((r ≡ to) × Holds other from c) → Holds n r c
    up (inl x) = (a r c).1 (inl x)
    up (inr x) =
        let l : c < m.width = subst (λ t. c < t) same x.1.column in
        (a r c).1 (inr (x.0, l, (let z = in_span m f c l in omega arith), x.1))

-- rows of one width have as many words
pub shared_span : (m n : BitRows) → IsBitRows m → IsBitRows n → m.width ≡ n.width → m.span ≡ n.span
shared_span m n f h e = f.wide ∙ ap (λ (t : ℕ). t / 64 + 1) e ∙ sym h.wide

pub word_within : (m : BitRows) → IsBitRows m → (r j : ℕ) → r < m.height → j < m.span →
    r * m.span + j < length m.words
word_within m f r j hr hj = let e = f.sized in let z = mul-add-lt r m.span j m.height hr hj in
    grind arith

-- the words below k of row `to` were united with those of a row that has P
pub record Uniting (m n : BitRows) (to : ℕ) (P : ℕ → Type 0) (k : ℕ) (grew : Bool) : Type 0 where
  pub fits : IsBitRows n
  pub rows : n.height ≡ m.height
  pub columns : n.width ≡ m.width
  pub span : n.span ≡ m.span
  pub adds : AddsWords m n to P k
  pub fewer : room n ≤ room m
  pub fewer_if : grew ≡ true → room n < room m
  pub unchanged : grew ≡ false → n ≡ m

-- one more word was united
pub uniting_more : (m n o : BitRows) (to k x : ℕ) (P : ℕ → Type 0) (grew b : Bool) → to < m.height →
    k < n.span → o ≡ unite n (to * n.span + k) x → room o ≤ room n →
    (b ≡ true → room o < room n) → (b ≡ false → o ≡ n) →
    ((c : ℕ) → c < m.width → c / 64 ≡ k → BitIs x (c % 64) ↔ P c) → Uniting m n to P k grew →
    Uniting m o to P (k + 1) (grew || b)
uniting_more m n o to k x P grew b ht hk e fewer fewer_if unchanged bits u = record {
  fits = subst IsBitRows (sym e) (united_fits n (to * n.span + k) x u.fits);
  rows = ap (λ (v : BitRows). v.height) e ∙ u.rows;
  columns = ap (λ (v : BitRows). v.width) e ∙ u.columns;
  span = ap (λ (v : BitRows). v.span) e ∙ u.span;
  adds = subst (λ (v : BitRows). AddsWords m v to P (k + 1)) (sym e) (adds_word m n u.fits to k x P
      u.columns (subst (λ t. to < t) (sym u.rows) ht) hk u.adds bits);
  fewer = (let y = u.fewer in omega arith);
  fewer_if = less_then grew b (room m) (room n) (room o) u.fewer_if u.fewer fewer_if fewer;
  unchanged = same_then grew b m n o u.unchanged unchanged;
}

pub uniting_end : (m n : BitRows) (to k : ℕ) (P : ℕ → Type 0) (grew : Bool) →
    Uniting m n to P k grew → GrowsIf m n grew
uniting_end m n to k P grew u = record {
  rows = u.rows;
  columns = u.columns;
  grows =
      λ r c h. (u.adds r c).1 (inl h);
  fewer = u.fewer;
  fewer_if = u.fewer_if;
  unchanged = u.unchanged;
}

shifted_bit : (n s i : ℕ) → bit_at (n / 2 ^ s) i ≡ bit_at n (s + i)
shifted_bit n s i = ap (λ (t : ℕ). t % 2) (div-div-eq-div-mul n (2 ^ s) (2 ^ i) ∙ ap
    (λ (t : ℕ). n / t) (sym (pow-add 2 s i)))

-- the zero bits of a word below its first one
clear_bits : (n i : ℕ) → n < 2 ^ 64 → i < trailing_zeros w64 n → bit_at n i ≡ 0
clear_bits n i h l = go (eq-zero-or-pos n)
  where
    go : (n ≡ 0) ⊎ (0 < n) → bit_at n i ≡ 0
    go (inl e) = ap (λ (t : ℕ). bit_at t i) e ∙ bit_at-zero i
    go (inr p) = (bit_at-trailing_zeros w64 n p h).2 i l

-- a row has no column before the next set bit of the word, nor before the word ends
pub after_none : (m : BitRows) (r c k step : ℕ) → word_of m r c / 2 ^ (c % 64) < 2 ^ 64 →
    step ≤ trailing_zeros w64 (word_of m r c / 2 ^ (c % 64)) → step ≤ 64 - c % 64 → c ≤ k →
    k < c + step → Holds m r k → ⊥
after_none m r c k step hw hz hs le lt h =
    let a = div-add-mod' c 64 in
    let b = div-add-mod' k 64 in
    let x = mod_below c 64 (omega arith) in
    let y = mod_below k 64 (omega arith) in
    let same : k / 64 ≡ c / 64 = omega arith in
    let on : k % 64 ≡ c % 64 + (k - c) = omega arith in
    let w : bit_at (word_of m r c) (c % 64 + (k - c)) ≡ 0 =
    sym (shifted_bit (word_of m r c) (c % 64) (k - c)) ∙ clear_bits
    (word_of m r c / 2 ^ (c % 64)) (k - c) hw (omega arith) in
    let z : bit_at (word_of m r c) (c % 64 + (k - c)) ≡ 1 = ap (λ (t : ℕ). bit_at (word_of m r c) t)
    (sym on) ∙ ap (λ (t : ℕ). bit_at (get_or m.words (r * m.span + t) 0) (k % 64))
    (sym same) ∙ h.bit in
    omega (arith, w, z)

-- where the row lacks the column, the next set bit stands after it
pub after_further : (m : BitRows) (r c : ℕ) → r < m.height → c < m.width → word_of m r c / 2 ^
    (c % 64) < 2 ^ 64 → (Holds m r c → ⊥) → 0 < trailing_zeros w64 (word_of m r c / 2 ^ (c % 64))
after_further m r c hr hc hw absent = go (eq-zero-or-pos (word_of m r c / 2 ^ (c % 64)))
    (eq-zero-or-pos (trailing_zeros w64 (word_of m r c / 2 ^ (c % 64))))
  where
    go : (word_of m r c / 2 ^ (c % 64) ≡ 0) ⊎ (0 < word_of m r c / 2 ^ (c % 64)) →
        (trailing_zeros w64 (word_of m r c / 2 ^ (c % 64)) ≡ 0) ⊎
        (0 < trailing_zeros w64 (word_of m r c / 2 ^ (c % 64))) → 0 < trailing_zeros w64
        (word_of m r c / 2 ^ (c % 64))
    go a (inr h) = h
    go (inl e) (inl z) = absurd (let y : trailing_zeros w64 (word_of m r c / 2 ^ (c % 64)) ≡ 64 =
        ap (λ (t : ℕ). trailing_zeros w64 t) e ∙ trailing_of_zero 64 in omega (arith, y, z))
    go (inr p) (inl z) =
        let b = (bit_at-trailing_zeros w64 (word_of m r c / 2 ^ (c % 64)) p hw).1 in
        let d : bit_at (word_of m r c) (c % 64 + 0) ≡ 1 =
        sym (shifted_bit (word_of m r c) (c % 64) 0) ∙ ap
        (λ (t : ℕ). bit_at (word_of m r c / 2 ^ (c % 64)) t) (sym z) ∙ b in
        let e : c % 64 + 0 ≡ c % 64 = omega arith in
        absurd (absent (record {
          row = hr;
          column = hc;
          bit =
              subst (λ t. bit_at (word_of m r c) t ≡ 1) e d;
        }))
