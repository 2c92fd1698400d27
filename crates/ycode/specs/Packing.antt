-- Rows that were put into one list of cells. No two different rows begin at one place, so a cell
-- and its column tell its row.
use Rattle.std.specs.Prelude.{ℕ, ◌≡◌, ◌+◌, ◌-◌, ◌<◌, ◌≤◌, Bool, true, false, not, ◌&&◌, ◌||◌}
use Rattle.std.specs.Prelude.{List, length, map, max, Option, [], Some, None, is_some, unwrap_or}
use Rattle.std.specs.Prelude.{if◌then◌else◌, nat_eq, nat_le, slice_index, slice_index_or}
use Rattle.std.specs.List.{filter, list_any, position_or_len, range_with_len}
use Rattle.ycode.specs.Combs.{held_at, AreAtMost}
use Rattle.ycode.specs.declared.entry.Entry.{Entry}
use Rattle.ycode.specs.Entries.{entry_at, EntriesAtMost}

-- cells with their checks and their numbers, and where rows begin
pub record PackingValue : Type 0 where
  pub width : ℕ
  pub checks : List ℕ
  pub values : List ℕ
  pub begun : List Bool

-- a row begins at d
abbrev pub Begins : List Bool → ℕ → Type 0
Begins begun d = slice_index_or begun d false ≡ true

-- the cell at a place is taken: its check is a column
abbrev pub is_taken : PackingValue → ℕ → Bool
is_taken p i = not (nat_eq (slice_index_or p.checks i p.width) p.width)

-- a row of these columns can begin at d: no other begins there, and none of its cells is taken
abbrev pub can_begin : PackingValue → List ℕ → ℕ → Bool
can_begin p columns d = not (slice_index_or p.begun d false) &&
    not (list_any (λ t. is_taken p (d + t)) columns)

-- the first place at which it can begin; at the end of the cells it can
abbrev pub first_place : PackingValue → List ℕ → ℕ
first_place p columns = position_or_len (can_begin p columns) (range_with_len 0 (length p.checks))

-- the columns at which a row has a number
abbrev pub columns_in : List (Option ℕ) → List ℕ
columns_in row = filter (λ t. is_some (slice_index_or row t None)) (range_with_len 0 (length row))

-- the number that a row at d has at place i
abbrev pub number_there : List (Option ℕ) → ℕ → ℕ → Option ℕ
number_there row d i = if nat_le d i then slice_index_or row (i - d) None else None

-- the cells with a row at d among those that are free, and room for all of its columns
abbrev pub with_row : PackingValue → List (Option ℕ) → ℕ → PackingValue
with_row p row d = record {
  width = p.width;
  checks = map (λ i. if is_some (number_there row d i) then i - d
      else slice_index_or p.checks i p.width) (range_with_len 0 (max (length p.checks) (d + length row)));
  values = map (λ i. unwrap_or (number_there row d i) (slice_index p.values i))
      (range_with_len 0 (max (length p.checks) (d + length row)));
  begun = map (λ i. nat_eq i d || slice_index_or p.begun i false)
      (range_with_len 0 (max (length p.checks) (d + length row)));
}

-- each cell has its number, and it is said of it whether a row begins there
pub record IsEven (p : PackingValue) : Type 0 where
  pub values : length p.values ≡ length p.checks
  pub begun : length p.begun ≡ length p.checks

-- What holds of packed rows: a row has room for all of its columns, and a cell whose check is a
-- column is of a row. A free cell has the number of columns as its check.
pub record IsPacking (width : ℕ) (checks values : List ℕ) (begun : List Bool) : Type 0 where
  pub some : 0 < width
  pub beside : length checks ≤ length values
  pub marked : length checks ≤ length begun
  pub room : (d : ℕ) → Begins begun d → d + width ≤ length checks
  pub owned : (d t : ℕ) → d + t < length checks → t < width → slice_index checks (d + t) ≡ t →
      Begins begun d
  pub small : (i : ℕ) → slice_index checks i ≤ width

-- the row begins at d
pub record HasRow (p : PackingValue) (d : ℕ) (row : List (Option ℕ)) : Type 0 where
  pub begins : Begins p.begun d
  pub room : d + p.width ≤ length p.checks
  pub cells : (t : ℕ) → t < p.width → held_at p.checks p.values (d + t) t ≡ slice_index_or row t
      None

-- what begins in the old rows begins in the new ones, and is the same
pub record Keeps (old new : PackingValue) : Type 0 where
  pub width : new.width ≡ old.width
  pub begins : (d : ℕ) → Begins old.begun d → Begins new.begun d
  pub cells : (d t : ℕ) → Begins old.begun d → t < old.width →
      held_at new.checks new.values (d + t) t ≡ held_at old.checks old.values (d + t) t
  pub grown : length old.checks ≤ length new.checks
  pub longer : length new.checks ≤ length old.checks + old.width
  pub even : length old.values ≡ length old.checks → length new.values ≡ length new.checks

-- each number of the row is at most n
abbrev pub RowAtMost : ℕ → List (Option ℕ) → Type 0
RowAtMost n row = (t k : ℕ) → slice_index_or row t None ≡ Some k → k ≤ n

-- the row is now at d among the others
pub record IsPut (old new : PackingValue) (row : List (Option ℕ)) (d : ℕ) : Type 0 where
  pub placed : HasRow new d row
  pub keeps : Keeps old new
  pub values : (n : ℕ) → AreAtMost n old.values → RowAtMost n row → AreAtMost n new.values

-- no number of the row meets a cell of another
abbrev pub FitsAt : List ℕ → List (Option ℕ) → ℕ → Type 0
FitsAt checks row d = (t k : ℕ) → slice_index_or row t None ≡ Some k → d + t < length checks →
    slice_index checks (d + t) ≡ length row

-- free cells were added
pub record IsGrown (width : ℕ) (checks checks' values values' : List ℕ) (begun begun' : List Bool)
    : Type 0 where
  pub longer : length checks ≤ length checks'
  pub beside : length checks' ≤ length values'
  pub marked : length checks' ≤ length begun'
  pub cells : (i : ℕ) → i < length checks → slice_index checks' i ≡ slice_index checks i
  pub free : (i : ℕ) → length checks ≤ i → i < length checks' → slice_index checks' i ≡ width
  pub numbers : (i : ℕ) → slice_index values' i ≡ slice_index values i
  pub begins : (d : ℕ) → slice_index_or begun' d false ≡ slice_index_or begun d false

-- the columns of the row below n were written at d
pub record IsWritten (n d : ℕ) (row : List (Option ℕ)) (checks checks' values values' : List ℕ)
    : Type 0 where
  pub there : (t k : ℕ) → t < n → slice_index_or row t None ≡ Some k →
      (slice_index checks' (d + t) ≡ t) × (slice_index values' (d + t) ≡ k)
  pub before : (i : ℕ) → i < d →
      (slice_index checks' i ≡ slice_index checks i) ×
      (slice_index values' i ≡ slice_index values i)
  pub none : (t : ℕ) → slice_index_or row t None ≡ None →
      (slice_index checks' (d + t) ≡ slice_index checks (d + t)) ×
      (slice_index values' (d + t) ≡ slice_index values (d + t))
  pub past : (t : ℕ) → n ≤ t →
      (slice_index checks' (d + t) ≡ slice_index checks (d + t)) ×
      (slice_index values' (d + t) ≡ slice_index values (d + t))

-- the row of these entries begins at d
pub record HasEntries (p : PackingValue) (d : ℕ) (entries : List Entry) : Type 0 where
  pub begins : Begins p.begun d
  pub room : d + p.width ≤ length p.checks
  pub cells : (t : ℕ) → t < p.width → held_at p.checks p.values (d + t) t ≡ entry_at entries t

-- the row of these entries is now at d among the others
pub record IsEntered (old new : PackingValue) (entries : List Entry) (d : ℕ) : Type 0 where
  pub row : HasEntries new d entries
  pub keeps : Keeps old new
  pub values : (n : ℕ) → AreAtMost n old.values → EntriesAtMost n entries →
      AreAtMost n new.values

-- the rows of these entries begin at these places
pub record HaveEntries (p : PackingValue) (places : List ℕ) (rows : List (List Entry)) : Type 0
  where
    pub count : length places ≡ length rows
    pub each : (q : ℕ) → q < length rows →
        HasEntries p (slice_index places q) (slice_index_or rows q [])
