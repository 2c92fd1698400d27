-- The table of the tokens' own numbers and their holders, as the code keeps it.
use Rattle.std.specs.Prelude.{◌≡◌, ◌≤◌, length, Result, Ok, Err}
use Rattle.ydeclarations.specs.declared.mistake.Mistake.TheVariants as mistakes
use Rattle.ydeclarations.specs.declared.mistake.Refused.{Refused}
use Rattle.ygrammar.specs.declared.holders.OwnTable.{OwnTable}
use Rattle.ydeclarations.specs.Elaboration.{own_numbers}
use Rattle.ydeclarations.specs.Mistakes.{Holds}
use Rattle.ygrammar.specs.Numbers.{AreHolders}
use Rattle.ydeclarations.specs.Owned.{Refuses}
use Rattle.ysyntax.specs.Tree.{Tree}
use Rattle.ysymbols.specs.Grammar.{number_bound}

-- The numbers that the tokens have by themselves, with the tokens that hold each number.
pub record IsOwnTable (t : Tree) (o : OwnTable) : Type 0 where
  pub numbers : o.numbers.items ≡ own_numbers t
  pub few : length o.holders.items ≤ number_bound
  pub holders : AreHolders (length o.holders.items) (own_numbers t) o.holders.items
  pub sound : Holds t mistakes.BadNumber → ⊥

-- these numbers, or a mistake in them
abbrev pub Owns : Tree → Result OwnTable Refused → Type 0
Owns t (Ok o) = IsOwnTable t o
Owns t (Err e) = Refuses t mistakes.BadNumber e
