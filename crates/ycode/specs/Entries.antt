-- Rows as lists of the numbers that stand in them.
use Rattle.std.specs.Prelude.{ℕ, ◌≡◌, ◌≢◌, ◌≤◌, List, [], ◌∷◌, Option, Some, None, if◌then◌else◌}
use Rattle.std.specs.Prelude.{◌++◌, nat_eq, slice_index_or}
use Rattle.std.specs.List.{flat_map, range_with_len}
use Rattle.ycode.specs.declared.entry.Entry.{Entry}

-- the first number, or else the second
abbrev pub or_else : Option ℕ → Option ℕ → Option ℕ
or_else (Some n) other = Some n
or_else None other = other

-- what an entry has at the column t
abbrev pub number_at : Entry → ℕ → Option ℕ
number_at e t = if nat_eq e.column t then Some e.number else None

-- the number at the column t: that of the last entry with this column
abbrev pub entry_at : List Entry → ℕ → Option ℕ
entry_at [] t = None
entry_at (e ∷ entries) t = or_else (entry_at entries t) (number_at e t)

-- the entry of a number at a column, where it is one
abbrev pub entry_for : ℕ → Option ℕ → List Entry
entry_for column None = []
entry_for column (Some n) = record { column = column; number = n } ∷ []

-- the entries of the numbers at the columns below n, in their order
abbrev pub entries_for : (ℕ → Option ℕ) → ℕ → List Entry
entries_for number n = flat_map (λ t. entry_for t (number t)) (range_with_len 0 n)

-- the entries have this number at the column, where it is one, and what they had at others
pub record Adds (column : ℕ) (number : Option ℕ) (old new : List Entry) : Type 0 where
  pub is : new ≡ old ++ entry_for column number
  pub here : entry_at new column ≡ or_else number (entry_at old column)
  pub other : (t : ℕ) → t ≢ column → entry_at new t ≡ entry_at old t

-- each number of the entries is at most n
abbrev pub EntriesAtMost : ℕ → List Entry → Type 0
EntriesAtMost n entries = (t k : ℕ) → entry_at entries t ≡ Some k → k ≤ n

-- each number of these rows is
abbrev pub NumbersAtMost : ℕ → List (List Entry) → Type 0
NumbersAtMost n rows = (q : ℕ) → EntriesAtMost n (slice_index_or rows q [])
