-- What one pass over the rules of a cell finds.
use Rattle.std.specs.Prelude.{ℕ, ◌≡◌, ◌+◌, ◌-◌, ◌<◌, ◌≤◌, ◌^◌, Bool, true, false, not, List, []}
use Rattle.std.specs.Prelude.{◌∷◌, length, min, Option, Some, None, if◌then◌else◌, nat_lt, nat_eq}
use Rattle.std.specs.List.{filter, list_any, count_by, fold}
use Rattle.ytables.specs.declared.class.Class.{Class}
use Rattle.ytables.specs.declared.class.Class.TheVariants.{Beat, Lose, Ban, Rest}
use Rattle.ytables.specs.declared.cell.Action.{Action}
use Rattle.ytables.specs.declared.cell.Action.TheVariants.{Reduce, Error}
use Rattle.ytables.specs.declared.cell.Cell.{Cell}
use Rattle.ytables.specs.declared.cell.Tally.{Tally}
use Rattle.ytables.specs.Cell.{lone, is_beat, is_lose, is_ban, is_rest}

-- what a pass has found before the first rule
abbrev pub no_tally : Tally
no_tally = record { banned = false; beaten = false; rests = 0; kept = 0; first = 0; all = 0 }

-- there is room for one more
pub record IsSmall (y : Tally) : Type 0 where
  pub rests : y.rests ≤ y.all
  pub kept : y.kept ≤ y.all
  pub all : y.all < 2 ^ 63

-- the least kept rule, with one more
abbrev pub lesser : Tally → ℕ → ℕ
lesser y r = if nat_eq y.kept 0 then r else min y.first r

-- one more rule of this class
abbrev pub tally_more : Tally → ℕ → Class → Tally
tally_more y r Beat = record {
  banned = y.banned;
  beaten = true;
  rests = y.rests;
  kept = y.kept + 1;
  first = lesser y r;
  all = y.all + 1;
}
tally_more y r Lose = record {
  banned = y.banned;
  beaten = y.beaten;
  rests = y.rests;
  kept = y.kept;
  first = y.first;
  all = y.all + 1;
}
tally_more y r Ban = record {
  banned = true;
  beaten = y.beaten;
  rests = y.rests;
  kept = y.kept + 1;
  first = lesser y r;
  all = y.all + 1;
}
tally_more y r Rest = record {
  banned = y.banned;
  beaten = y.beaten;
  rests = y.rests + 1;
  kept = y.kept + 1;
  first = lesser y r;
  all = y.all + 1;
}

-- reduce by the least kept rule, where there is one
abbrev pub reduce_of : Tally → Bool → Cell
reduce_of y choice =
    if nat_eq y.kept 0 then lone Error choice
    else record {
      action = Reduce y.first;
      shift_reduce = 0;
      reduce_reduce = y.kept - 1;
      choice = choice;
    }

-- the cell that a tally gives
abbrev pub settle : Tally → Option Action → Cell
settle y None = reduce_of y (nat_lt 1 y.all)
settle y (Some shift) =
    if y.banned then lone Error true
    else if y.beaten then reduce_of y true
    else record {
      action = shift;
      shift_reduce = y.rests;
      reduce_reduce = 0;
      choice = nat_lt 0 y.all;
    }

-- the least of the rules, or 0
abbrev pub least_of : List ℕ → ℕ
least_of [] = 0
least_of (r ∷ rules) = fold min r rules

-- the rules that do not lose
abbrev pub kept_of : (ℕ → Class) → List ℕ → List ℕ
kept_of class rules = filter (λ r. not (is_lose (class r))) rules

-- y is what a pass over these rules finds
pub record IsTally (class : ℕ → Class) (rules : List ℕ) (y : Tally) : Type 0 where
  pub banned : y.banned ≡ list_any (λ r. is_ban (class r)) rules
  pub beaten : y.beaten ≡ list_any (λ r. is_beat (class r)) rules
  pub rests : y.rests ≡ count_by (λ r. is_rest (class r)) rules
  pub kept : y.kept ≡ length (kept_of class rules)
  pub first : y.first ≡ least_of (kept_of class rules)
  pub all : y.all ≡ length rules
