-- How a form begins, seen from one token.
use Rattle.std.specs.Prelude.{ℕ, List}
use Rattle.ysymbols.specs.Grammar.{ContextFree}
use Rattle.ysymbols.specs.Forms.{Nullable, First}
use Rattle.yprovenance.specs.declared.front.Front.{Front}
use Rattle.yprovenance.specs.declared.front.Front.TheVariants.{Begins, Vanishes, Neither}

-- the form begins with the token, or else vanishes, or does neither
abbrev pub IsFront : ContextFree → List ℕ → ℕ → Front → Type 0
IsFront g y a Begins = First g y a
IsFront g y a Vanishes = (First g y a → ⊥) × Nullable g y
IsFront g y a Neither = (First g y a → ⊥) × (Nullable g y → ⊥)
