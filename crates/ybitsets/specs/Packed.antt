-- Packed rows: all rows over one list of cells, each filled cell with its row as owner.
use Rattle.std.specs.Prelude.{ℕ, ◌≡◌, ◌+◌, ◌<◌, ◌≤◌, ◌^◌, true, List, [], length, map, Option, None}
use Rattle.std.specs.Prelude.{is_some, if◌then◌else◌, nat_eq, nat_lt, slice_index, slice_index_or}
use Rattle.std.specs.List.{range_with_len}
use Rattle.ysymbols.specs.Grammar.{most_symbols}

-- rows of so many columns; at each column a row has an entry or none
pub record PackedRows (T : Type 0) : Type 0 where
  pub width : ℕ
  pub rows : List (List (Option T))

-- the entry of row q at the column t
abbrev pub entry_of : {T : Type 0} → List (List (Option T)) → ℕ → ℕ → Option T
entry_of rows q t = slice_index_or (slice_index_or rows q []) t None

-- the cell at place k, where its owner is row q; places are owned by q + 1, or free by 0
abbrev pub held_at : {T : Type 0} → List (Option T) → List ℕ → ℕ → ℕ → Option T
held_at cells owners q k = if nat_eq (slice_index owners k) (q + 1) then slice_index_or cells k None
    else None

-- the row number q at the displacement d
abbrev pub unpacked_row : {T : Type 0} → List (Option T) → List ℕ → ℕ → ℕ → ℕ → List (Option T)
unpacked_row cells owners width q d = map (λ t. held_at cells owners q (d + t))
    (range_with_len 0 width)

-- the rows that the packed ones stand for
abbrev pub unpack : {T : Type 0} → List (Option T) → List ℕ → List ℕ → ℕ → List (List (Option T))
unpack cells owners displacements width =
    map (λ q. unpacked_row cells owners width q (slice_index displacements q))
    (range_with_len 0 (length displacements))

-- the owners are rows below n
abbrev pub AreOwners : List ℕ → ℕ → Type 0
AreOwners owners n = (k : ℕ) → slice_index owners k ≤ n

-- each filled place of the row, from column t on, is free
abbrev pub FitsFrom : {T : Type 0} → ℕ → List ℕ → List (Option T) → ℕ → Type 0
FitsFrom t owners row d = (s : ℕ) → t ≤ s → s < length row → is_some (slice_index_or row s None) ≡
    true → slice_index owners (d + s) ≡ 0

-- each filled place of the row is free
abbrev pub FitsAt : {T : Type 0} → List ℕ → List (Option T) → ℕ → Type 0
FitsAt owners row d = FitsFrom 0 owners row d

-- no cell and no owner differs
pub record SameCells {T : Type 0} (cells cells' : List (Option T)) (owners owners' : List ℕ) : Type
    0 where
  pub cells_same : (k : ℕ) → slice_index_or cells' k None ≡ slice_index_or cells k None
  pub owners_same : (k : ℕ) → slice_index owners' k ≡ slice_index owners k
  pub room : length owners' ≤ length cells'

-- the columns below t of row number n were written at d, and no other row changed
pub record IsWritten {T : Type 0} (t : ℕ) (cells cells' : List (Option T)) (owners owners' : List ℕ)
    (n d : ℕ) (row : List (Option T)) : Type 0 where
  pub old : (q k : ℕ) → q < n → held_at cells' owners' q k ≡ held_at cells owners q k
  pub new : (s : ℕ) → held_at cells' owners' n (d + s) ≡
      (if nat_lt s t then slice_index_or row s None else None)
  pub owners_in : AreOwners owners' (n + 1)

-- the rows with one more
pub record IsPushed {T : Type 0} (old new : PackedRows T) (row : List (Option T)) : Type 0 where
  pub width : new.width ≡ old.width
  pub count : length new.rows ≡ length old.rows + 1
  pub before : (q t : ℕ) → q < length old.rows → entry_of new.rows q t ≡ entry_of old.rows q t
  pub here : (t : ℕ) → t < old.width → entry_of new.rows (length old.rows) t ≡ slice_index_or row t
      None

-- what holds of packed rows
pub record IsPacked {T : Type 0} (cells : List (Option T)) (owners displacements : List ℕ)
    (width : ℕ) : Type 0 where
  pub narrow : width ≤ most_symbols
  pub room : length owners ≤ length cells
  pub owners_in : AreOwners owners (length displacements)
  pub near : (q : ℕ) → q < length displacements → slice_index displacements q < 2 ^ 63
