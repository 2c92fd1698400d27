-- Where no cell has a choice, a cell says whatever an item allows (Aho, Sethi and Ullman, 4.7).
use Rattle.std.specs.Prelude.{ℕ, ◌≡◌, List, reverse}
use Rattle.ysymbols.specs.Grammar.{ContextFree, IsToken, end_token}
use Rattle.ylalr.specs.Items.{Valid}
use Rattle.ymachine.specs.Cells.{Expects, Ends}
use Rattle.ymachine.specs.Machine.{Machine, Shift, Reduce, Accept}

-- A cell shifts whatever an item expects, reduces by each rule that may end, and accepts after the
-- start symbol.
pub record IsComplete (g : ContextFree) (m : Machine) : Type 0 where
  pub shift : (stack : List ℕ) (t : ℕ) → IsToken g t → Expects g (reverse stack) t
      → m.cell stack t ≡ Shift
  pub reduce : (stack : List ℕ) (r a : ℕ) → Ends g (reverse stack) r a → m.cell stack a ≡ Reduce r
  pub accept : (stack : List ℕ) (a : ℕ) → Valid g (reverse stack) 0 1 a
      → m.cell stack end_token ≡ Accept
