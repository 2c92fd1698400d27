-- Marks of nullable symbols, and rows of first tokens.
use Rattle.std.specs.Prelude.{ℕ, Bool, List, [], ◌∷◌, ◌↔◌}
use Rattle.ysymbols.specs.Grammar.{ContextFree}
use Rattle.ysymbols.specs.Forms.{Nullable, First}
use Rattle.ybitsets.specs.Marks.{Has}
use Rattle.ybitsets.specs.Rows.{BitRows, Holds}

-- the marked symbols are those that derive the empty form
abbrev pub IsNullable : ContextFree → List Bool → Type 0
IsNullable g n = (s : ℕ) → Has n s ↔ Nullable g (s ∷ [])

-- the rows of symbols are their first tokens
abbrev pub IsFirst : ContextFree → BitRows → Type 0
IsFirst g m = (s t : ℕ) → Holds m s t ↔ First g (s ∷ []) t
