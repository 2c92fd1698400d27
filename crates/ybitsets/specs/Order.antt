-- Rows taken depth first: which turns are still to come.
use Rattle.std.specs.Prelude.{ℕ, ◌<◌, ◌⊎◌, Bool, List, length, All}
use Rattle.std.specs.List.{Contains}
use Rattle.ybitsets.specs.declared.order.Turn.{Turn}
use Rattle.ybitsets.specs.declared.order.Turn.TheVariants.{Enter, Leave}
use Rattle.ybitsets.specs.Marks.{Has}

-- the row whose turn it is
abbrev pub row_of : Turn → ℕ
row_of (Enter p) = p
row_of (Leave p) = p

-- each row that was seen is in the order, or has its turn to be left
pub record AreTurns (m : List Bool) (v : List Turn) (o : List ℕ) : Type 0 where
  pub turns : All (λ t. row_of t < length m) v
  pub order : All (λ p. p < length m) o
  pub left : (p : ℕ) → Has m p → Contains o p ⊎ Contains v (Leave p)
