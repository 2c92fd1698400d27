-- Rows of bits, one bit for each column, kept in words of 64.
use Rattle.std.specs.Prelude.{ℕ, Bool, true, false, List, ◌≡◌, ◌<◌, ◌≤◌, ◌+◌, ◌-◌, ◌*◌, ◌/◌, ◌%◌}
use Rattle.std.specs.Prelude.{◌^◌, ◌⊎◌, ◌↔◌, length, slice_index_or, slice_set, sum_by, bit_or}
use Rattle.std.specs.Int.{bit_at}

-- so many rows, each of so many columns in so many words
pub record BitRows : Type 0 where
  pub height : ℕ
  pub width : ℕ
  pub span : ℕ
  pub words : List ℕ

-- the words are those of the rows, and a row has a word for each 64 columns
pub record IsBitRows (m : BitRows) : Type 0 where
  pub sized : length m.words ≡ m.height * m.span
  pub wide : m.span ≡ m.width / 64 + 1

-- the word of row r with column c
abbrev pub word_of : BitRows → ℕ → ℕ → ℕ
word_of m r c = slice_index_or m.words (r * m.span + c / 64) 0

-- row r has column c
pub record Holds (m : BitRows) (r c : ℕ) : Type 0 where
  pub row : r < m.height
  pub column : c < m.width
  pub bit : bit_at (word_of m r c) (c % 64) ≡ 1

-- so many rows of so many columns
pub record IsSized (height width : ℕ) (m : BitRows) : Type 0 where
  pub rows : m.height ≡ height
  pub columns : m.width ≡ width

-- how much the words can still grow
abbrev pub room : BitRows → ℕ
room m = sum_by (λ w. 2 ^ 64 - 1 - w) m.words

-- the rows with one word united with another
abbrev pub unite : BitRows → ℕ → ℕ → BitRows
unite m at more = record {
  height = m.height;
  width = m.width;
  span = m.span;
  words =
      slice_set m.words at (bit_or (slice_index_or m.words at 0) more);
}

-- n has in row `to` also what the row `from` of another has
abbrev pub AddsFrom : BitRows → BitRows → ℕ → BitRows → ℕ → Type 0
AddsFrom m n to other from = (r c : ℕ) → Holds n r c ↔ (Holds m r c ⊎
    ((r ≡ to) × Holds other from c))

-- n has all that m has
abbrev pub Grows : BitRows → BitRows → Type 0
Grows m n = (r c : ℕ) → Holds m r c → Holds n r c

-- bits were only set, and some were where changed is true
pub record GrowsIf (m n : BitRows) (changed : Bool) : Type 0 where
  pub rows : n.height ≡ m.height
  pub columns : n.width ≡ m.width
  pub grows : Grows m n
  pub fewer : room n ≤ room m
  pub fewer_if : changed ≡ true → room n < room m
  pub unchanged : changed ≡ false → n ≡ m
