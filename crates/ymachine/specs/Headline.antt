-- The machine of a grammar: at each stack its cells are those of the merged canonical LR(1) items
-- (Aho, Sethi and Ullman, 4.7, the canonical collection and LALR tables; POSIX yacc, "Conflicts").
use Rattle.std.specs.Prelude.{ℕ, ◌≡◌, ◌<◌, ◌≤◌, ◌↔◌, ◌⊎◌, Bool, IsTrue, List, length, reverse, Some}
use Rattle.ysymbols.specs.Grammar.{ContextFree, GrammarValue, IsToken, rule_of}
use Rattle.ylalr.specs.declared.items.Item.{Item}
use Rattle.ylalr.specs.Items.{InCore, IsCore, Lookahead}
use Rattle.ylalr.specs.Sets.{IsAscending}
use Rattle.ytables.specs.Cell.{by_default}
use Rattle.ytables.specs.Tables.{cell_by, default_by}
use Rattle.ymachine.specs.Machine.{Machine, Move, Error}
use Rattle.ymachine.specs.MachineOver.{move_of}
use Rattle.ytables.specs.Text.{name_of}
use Rattle.ytokens.specs.Symbols.{symbol_named, token_count}

-- the items k, in order and at least one, are all that are valid for the stack's symbols
abbrev pub IsStateOf : ContextFree → List ℕ → List Item → Type 0
IsStateOf g stack k = (0 < length k) × IsAscending k × IsCore g (reverse stack) k

-- no item is valid for the stack's symbols
abbrev pub IsDead : ContextFree → List ℕ → Type 0
IsDead g stack = (i : Item) → InCore g (reverse stack) i → ⊥

-- the test says which tokens are merged lookaheads of which items
abbrev pub AreLooks : ContextFree → List Item → (Item → ℕ → Bool) → Type 0
AreLooks g k looks = (i : Item) (a : ℕ) → IsToken g a → IsTrue (looks i a) ↔ Lookahead g k i a

-- What is done at the token t in the state with the items k: the default reduction of a consistent
-- state, or else what the cell says. A shift has no state number, so where gotos lead doesn't
-- matter.
abbrev pub move_by : GrammarValue → (Item → ℕ → Bool) → List Item → ℕ → Move
move_by v looks k t =
    move_of (by_default (default_by v (λ symbol. Some 0) looks k)
    (cell_by v (λ symbol. Some 0) looks k t).action)

-- The machine agrees with the grammar: at each stack and token its cell is that of the stack's
-- valid items and their merged lookaheads, and an error where no item is valid or the number is no
-- token; its rules, names and tokens are the grammar's. The valid items of a stack have only one
-- order, so a grammar has one machine.
pub record IsMachineOf (v : GrammarValue) (m : Machine) : Type 0 where
  pub state : (stack : List ℕ) → IsDead v.bare stack ⊎ ((k : List Item) × IsStateOf v.bare stack k)
  pub cell : (stack : List ℕ) (k : List Item) (t : ℕ) → IsStateOf v.bare stack k
      → IsToken v.bare t →
      (looks : Item → ℕ → Bool) × AreLooks v.bare k looks × (m.cell stack t ≡ move_by v looks k t)
  pub dead : (stack : List ℕ) (t : ℕ) → IsDead v.bare stack → m.cell stack t ≡ Error
  pub beyond : (stack : List ℕ) (t : ℕ) → v.bare.tokens ≤ t → m.cell stack t ≡ Error
  pub rule : (r : ℕ) → r < length v.bare.rules → m.rule r ≡ rule_of v.bare r
  pub name : (symbol : ℕ) → symbol < v.bare.symbols → m.name symbol ≡ name_of v symbol
  pub find : (name : List ℕ) → m.find name ≡ symbol_named v name
  pub tokens : m.tokens ≡ token_count v
