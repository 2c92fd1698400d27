-- Rows that pass on what they have: row p to each row that it has a link to.
use Rattle.std.specs.Prelude.{ℕ, ◌≡◌, ◌<◌, ◌↔◌, List, [], length, slice_index_or}
use Rattle.std.specs.List.{Contains}
use Rattle.ybitsets.specs.Rows.{BitRows, Holds}

-- the rows to which row p has a link
abbrev pub links_of : List (List ℕ) → ℕ → List ℕ
links_of l p = slice_index_or l p []

-- there is a link from p to t
abbrev pub Link : List (List ℕ) → ℕ → ℕ → Type 0
Link l p t = Contains (slice_index_or l p []) t

-- the links are between so many rows
pub record AreLinks (n : ℕ) (l : List (List ℕ)) : Type 0 where
  pub sized : length l ≡ n
  pub within : (p t : ℕ) → Link l p t → t < n

-- links were only added
abbrev pub MoreLinks : List (List ℕ) → List (List ℕ) → Type 0
MoreLinks l n = (p t : ℕ) → Link l p t → Link n p t

-- row t gets c along the links from a row that has it
pub data Reaches (l : List (List ℕ)) (m : BitRows) : ℕ → ℕ → Type 0 where
  given : {p c : ℕ} → Holds m p c → Reaches l m p c
  passed : {p t c : ℕ} → Reaches l m p c → Link l p t → Reaches l m t c

-- what row p has is passed on
abbrev pub PassesOn : List (List ℕ) → BitRows → ℕ → Type 0
PassesOn l m p = (t c : ℕ) → Link l p t → Holds m p c → Holds m t c

-- the rows n are the rows m with all that is passed on
abbrev pub IsSpread : List (List ℕ) → BitRows → BitRows → Type 0
IsSpread l m n = (r c : ℕ) → Holds n r c ↔ Reaches l m r c
