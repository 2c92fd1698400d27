-- Lists of marks.
use Rattle.std.specs.Prelude.{ℕ, Bool, true, false, not, List, ◌≡◌, slice_index_or, count_by}

-- place i is marked
abbrev pub Has : List Bool → ℕ → Type 0
Has m i = slice_index_or m i false ≡ true

-- how many places are not
abbrev pub gaps : List Bool → ℕ
gaps m = count_by not m
