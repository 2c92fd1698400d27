-- The arrays of a parser in C.
use Rattle.std.specs.Prelude.{ℕ, ◌≡◌, ◌<◌, List, []}
use Rattle.ygenerate.specs.Sources.{AreTablesOf}
use Rattle.ytables.specs.Tables.{TablesValue}
use Rattle.ycode.specs.declared.code.Code.{Code}
use Rattle.ycode.specs.declared.policy.Policy.TheVariants.{Consistent}
use Rattle.ycode.specs.Reads.{IsCode}
use Rattle.ycode.specs.Whole.{code_for}
use Rattle.yembed.specs.declared.codes.Sizes.{Sizes}

-- these are the arrays of the parser by the tables of the grammar that these bytes mean: those that
-- the definition has for these tables without default reductions, and they say what the tables say
pub record IsCodeOf (grammar : List ℕ) (code : Code) : Type 0 where
  pub tables : TablesValue
  pub are : AreTablesOf grammar tables
  pub says : IsCode Consistent tables code
  pub value : code ≡ code_for Consistent tables

-- the arrays are those of no other parser: whatever arrays a call has for these bytes are these
abbrev pub IsOnlyCode : List ℕ → Code → Type 0
IsOnlyCode grammar code = (other : Code) → IsCodeOf grammar other → other ≡ code

-- the numbers are those of the array with this number; there are 14
pub record IsArrayOf (code : Code) (array : ℕ) (list : List ℕ) : Type 0 where
  pub action_rows : array ≡ 0 → list ≡ code.actions.rows
  pub action_checks : array ≡ 1 → list ≡ code.actions.checks
  pub action_values : array ≡ 2 → list ≡ code.actions.values
  pub usual : array ≡ 3 → list ≡ code.usual
  pub sets : array ≡ 4 → list ≡ code.sets
  pub bits : array ≡ 5 → list ≡ code.bits
  pub goto_rows : array ≡ 6 → list ≡ code.gotos.rows
  pub goto_checks : array ≡ 7 → list ≡ code.gotos.checks
  pub goto_values : array ≡ 8 → list ≡ code.gotos.values
  pub targets : array ≡ 9 → list ≡ code.targets
  pub symbols : array ≡ 10 → list ≡ code.symbols
  pub lengths : array ≡ 11 → list ≡ code.lengths
  pub lefts : array ≡ 12 → list ≡ code.lefts
  pub numbers : array ≡ 13 → list ≡ code.numbers
  pub none : 13 < array → list ≡ []

-- the numbers by which the arrays are read
pub record HasSizes (code : Code) (sizes : Sizes) : Type 0 where
  pub states : sizes.states ≡ code.states
  pub rules : sizes.rules ≡ code.rules
  pub tokens : sizes.tokens ≡ code.tokens
  pub span : sizes.span ≡ code.span

-- the numbers are those of an array of the one parser of the grammar that these bytes mean
pub record IsArray (grammar : List ℕ) (array : ℕ) (sizes : Sizes) (numbers : List ℕ) : Type 0 where
  pub code : Code
  pub is : IsCodeOf grammar code
  pub only : IsOnlyCode grammar code
  pub of : IsArrayOf code array numbers
  pub has : HasSizes code sizes
