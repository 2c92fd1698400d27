-- What forms begin with, and what stands after the first symbol of each body.
use Rattle.std.specs.Prelude.{ℕ, Bool, List, ◌≡◌, ◌<◌, ◌⊎◌, ◌↔◌, length, drop, take, All}
use Rattle.std.specs.Prelude.{slice_index}
use Rattle.ysymbols.specs.Grammar.{ContextFree, body_of}
use Rattle.ylalr.specs.declared.behind.Behind.{Behind}
use Rattle.ybitsets.specs.Marks.{Has}
use Rattle.ybitsets.specs.Rows.{BitRows, Holds, IsSized}

-- some symbol of the form has the token in its row, and all before it vanish
pub record FormHas (n : List Bool) (m : BitRows) (x : List ℕ) (t : ℕ) : Type 0 where
  pub place : ℕ
  pub within : place < length x
  pub before : All (Has n) (take place x)
  pub there : Holds m (slice_index x place) t

-- w has no more than v and, in row t, what the form y begins with
abbrev pub AddsAtMost : List Bool → BitRows → List ℕ → ℕ → BitRows → BitRows → Type 0
AddsAtMost n m y t v w = (r b : ℕ) → Holds w r b → Holds v r b ⊎ ((r ≡ t) × FormHas n m y b)

-- row t has what the form y begins with
abbrev pub HasForm : List Bool → BitRows → List ℕ → ℕ → BitRows → Type 0
HasForm n m y t w = (b : ℕ) → FormHas n m y b → Holds w t b

-- what stands after the first symbol of the body of rule r
abbrev pub rest_of : ContextFree → ℕ → List ℕ
rest_of g r = drop 1 (body_of g r)

-- each rule below k has in its row what the rest of its body begins with, and a mark where that
-- vanishes; other rules have neither
pub record BehindTo (g : ContextFree) (n : List Bool) (m : BitRows) (k : ℕ) (rows : BitRows)
    (vanishing : List Bool) : Type 0 where
  pub sized : IsSized (length g.rules) g.tokens rows
  pub marks : length vanishing ≡ length g.rules
  pub begun : (r b : ℕ) → Holds rows r b ↔ ((r < k) × FormHas n m (rest_of g r) b)
  pub vanishes : (r : ℕ) → Has vanishing r ↔ ((r < k) × All (Has n) (rest_of g r))

-- the same for all rules
abbrev pub IsBehind : ContextFree → List Bool → BitRows → Behind → Type 0
IsBehind g n m v = BehindTo g n m (length g.rules) v.rows v.vanishing
