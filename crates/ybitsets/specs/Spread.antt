-- One row has given along its links: what that makes of rows and of the rows that wait.
use Rattle.std.specs.Prelude.{ℕ, Bool, ◌≡◌, ◌<◌, ◌≤◌, ◌⊎◌, ◌↔◌, List, length}
use Rattle.std.specs.List.{Contains}
use Rattle.ybitsets.specs.Rows.{BitRows, Holds, IsSized, room}
use Rattle.ybitsets.specs.Marks.{Has}

-- row r is as it was
abbrev pub SameRow : BitRows → BitRows → ℕ → Type 0
SameRow m n r = (c : ℕ) → Holds n r c → Holds m r c

-- the rows listed got what row p has; each that grew waits, and so does each that waited
pub record Gives (to : List ℕ) (p : ℕ) (m : BitRows) (v : List Bool) (n : BitRows) (w : List Bool) :
    Type 0 where
  pub sized : IsSized m.height m.width n
  pub marks : length w ≡ length v
  pub adds : (r c : ℕ) → Holds n r c ↔ (Holds m r c ⊎ (Contains to r × Holds m p c))
  pub waits : (r : ℕ) → SameRow m n r ⊎ Has w r
  pub kept : (r : ℕ) → Has v r → Has w r
  pub fewer : room n ≤ room m
  pub calm : (room n < room m) ⊎ (w ≡ v)
