-- The most usual of some values.
use Rattle.std.specs.Prelude.{ℕ, ◌+◌, Bool, false, List, length, map, take, Option, Some, None}
use Rattle.std.specs.Prelude.{if◌then◌else◌, nat_eq, nat_lt, slice_index, slice_index_or, unwrap_or}
use Rattle.std.specs.List.{best_of, count_by, range_with_len}

-- the place has this value
abbrev pub has_value : ℕ → Option ℕ → Bool
has_value n None = false
has_value n (Some m) = nat_eq n m

-- how many places have this value; none is no value
abbrev pub count_of : List (Option ℕ) → Option ℕ → ℕ
count_of values None = 0
count_of values (Some n) = count_by (has_value n) values

-- how many of the places up to i have the value of place i
abbrev pub rank_at : List (Option ℕ) → ℕ → ℕ
rank_at values i = count_of (take (i + 1) values) (slice_index_or values i None)

-- the first place of the greatest rank, or that past the end where no place has a value
abbrev pub usual_place : List (Option ℕ) → ℕ
usual_place values = best_of (λ i best. nat_lt (rank_at values best) (rank_at values i))
    (length values) (range_with_len 0 (length values))

-- the value that most places have: among equals the one that comes to so many places first
abbrev pub most_usual : List (Option ℕ) → ℕ
most_usual values = unwrap_or (slice_index_or values (usual_place values) None) 0

-- how many places have each value below the bound
abbrev pub counts_in : ℕ → List (Option ℕ) → List ℕ
counts_in bound values = map (λ r. count_of values (Some r)) (range_with_len 0 bound)

-- the place of the greatest number, the first of equals
abbrev pub greatest_place : List ℕ → ℕ
greatest_place numbers = best_of (λ i best. nat_lt (slice_index numbers best) (slice_index numbers i))
    0 (range_with_len 0 (length numbers))

-- the place, where a number other than 0 stands there
abbrev pub where_some : List ℕ → ℕ → Option ℕ
where_some numbers k = if nat_lt 0 (slice_index numbers k) then Some k else None

-- the value that most places have, the least of equals, where a place has one
abbrev pub commonest : ℕ → List (Option ℕ) → Option ℕ
commonest bound values =
    where_some (counts_in bound values) (greatest_place (counts_in bound values))
