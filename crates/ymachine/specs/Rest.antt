-- The upcoming tokens of a parse in place: those inserted, and those first read that were not
-- taken.
use Rattle.std.specs.Prelude.{ℕ, ◌+◌, ◌-◌, ◌==◌, ◌||◌, nat_lt, Bool, List, [], ◌∷◌, ◌++◌, length}
use Rattle.std.specs.Prelude.{drop, map, reverse, slice_index_or, if◌then◌else◌}
use Rattle.ymachine.specs.declared.rest.Remaining.{Remaining}
use Rattle.ymachine.specs.Machine.{without_last}
use Rattle.ymachine.specs.History.{places_from}

-- the tokens inserted and not taken, the next one last; how many of those first read were taken;
-- how many insertions stand
pub record Rest : Type 0 where
  pub inserted : List ℕ
  pub at : ℕ
  pub edits : ℕ

-- the upcoming tokens that the code holds
abbrev pub rest_in : Remaining → Rest
rest_in r = record { inserted = r.inserted.items; at = r.at; edits = r.edits }

-- an inserted token has the place 0
abbrev pub at_no_place : ℕ → ℕ × ℕ
at_no_place token = (token, 0)

-- the upcoming tokens with their places
abbrev pub rest_left : List ℕ → Rest → List (ℕ × ℕ)
rest_left tokens r = map at_no_place (reverse r.inserted) ++ drop r.at (places_from 1 tokens)

-- the token ahead, or the end
abbrev pub ahead : List ℕ → Rest → ℕ
ahead tokens r =
    if length r.inserted == 0 then slice_index_or tokens r.at 0
    else slice_index_or r.inserted (length r.inserted - 1) 0

-- whether there is an upcoming token
abbrev pub is_left : List ℕ → Rest → Bool
is_left tokens r = nat_lt 0 (length r.inserted) || nat_lt r.at (length tokens)

-- the place of the first upcoming token
abbrev pub place_left : Rest → ℕ
place_left r = if length r.inserted == 0 then r.at + 1 else 0

-- the first upcoming token is taken
abbrev pub without_first : Rest → Rest
without_first r =
    if length r.inserted == 0 then record r { at = r.at + 1 }
    else record r { inserted = without_last 1 r.inserted }

-- a token that was taken from this place comes back
abbrev pub with_first_back : ℕ → ℕ → Rest → Rest
with_first_back place token r =
    if place == 0 then record r { inserted = r.inserted ++ token ∷ [] }
    else record r { at = r.at - 1 }

-- a token becomes the first upcoming one
abbrev pub with_insertion : ℕ → Rest → Rest
with_insertion token r = record r { inserted = r.inserted ++ token ∷ []; edits = r.edits + 1 }

-- what was before an insertion
abbrev pub without_insertion : Rest → Rest
without_insertion r = record r { inserted = without_last 1 r.inserted; edits = r.edits - 1 }

-- all tokens first read are upcoming
abbrev pub first_rest : Rest
first_rest = record { inserted = []; at = 0; edits = 0 }
