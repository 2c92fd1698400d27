-- One list of cells that has rows of numbers, each cell with the column that it is of.
use Rattle.std.specs.Prelude.{ℕ, ◌≡◌, ◌+◌, ◌*◌, ◌<◌, ◌≤◌, List, [], length, Option, Some, None}
use Rattle.std.specs.Prelude.{if◌then◌else◌, nat_eq, slice_index, slice_index_or}
use Rattle.ycode.specs.declared.entry.Entry.{Entry}
use Rattle.ycode.specs.declared.comb.Comb.{Comb}
use Rattle.ycode.specs.Entries.{entry_at}

-- the number at place i, where the check there is t
abbrev pub held_at : List ℕ → List ℕ → ℕ → ℕ → Option ℕ
held_at checks values i t =
    if nat_eq (slice_index checks i) t then Some (slice_index values i) else None

-- the place that is read for the column t of row q
abbrev pub place_of : Comb → ℕ → ℕ → ℕ
place_of c q t = slice_index c.rows q + t

-- the number that row q has at the column t
abbrev pub held : Comb → ℕ → ℕ → Option ℕ
held c q t = held_at c.checks c.values (place_of c q t) t

-- each number of the list is at most n
abbrev pub AreAtMost : ℕ → List ℕ → Type 0
AreAtMost n numbers = (i : ℕ) → slice_index numbers i ≤ n

-- the comb has the rows of these entries, with so many columns
pub record HasRows (rows : List (List Entry)) (width : ℕ) (c : Comb) : Type 0 where
  pub count : length c.rows ≡ length rows
  pub beside : length c.checks ≤ length c.values
  pub even : length c.values ≡ length c.checks
  pub cells : (q t : ℕ) → q < length rows → t < width →
      held c q t ≡ entry_at (slice_index_or rows q []) t
  pub inside : (q t : ℕ) → q < length rows → t < width → place_of c q t < length c.checks
  pub checks : AreAtMost width c.checks
  pub short : length c.checks ≤ 2 * (length rows * width)
