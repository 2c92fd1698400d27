-- Where no cell has a choice, a cell says whatever the items of its state and their lookaheads
-- give (Aho, Sethi and Ullman, 4.7, LALR tables).
use Rattle.std.specs.Prelude.{ℕ, ◌≡◌, ◌≢◌, ◌<◌, false, length}
use Rattle.std.specs.List.{Contains}
use Rattle.ysymbols.specs.Grammar.{IsToken, end_token}
use Rattle.ylalr.specs.Items.{Lookahead}
use Rattle.ylalr.specs.Collection.{Collection, Guide, bare_of, state_of}
use Rattle.ytables.specs.declared.cell.Action.TheVariants.{Shift, Reduce, Accept}
use Rattle.ytables.specs.Tables.{TablesValue, cell_in, action_at}
use Rattle.ytables.specs.Allowed.{complete_of, accept_item, ShiftsIn}

-- no cell of a state and a token has a choice
abbrev pub NoChoice : Collection → Guide → Type 0
NoChoice m u = (q t : ℕ) → q < length m.states → IsToken (bare_of m) t →
    (cell_in m u q t).choice ≡ false

-- The tables shift what an item has its dot before, reduce by each rule at the lookaheads of its
-- complete item, and accept after the start symbol.
pub record CellsHave (v : TablesValue) : Type 0 where
  pub shift : (q t : ℕ) → q < length v.built.states → IsToken (bare_of v.built) t →
      ShiftsIn (bare_of v.built) (state_of v.built q) t → (n : ℕ) × (action_at v q t ≡ Shift n)
  pub reduce : (q r a : ℕ) → q < length v.built.states → IsToken (bare_of v.built) a → r ≢ 0 →
      Lookahead (bare_of v.built) (state_of v.built q) (complete_of (bare_of v.built) r) a →
      action_at v q a ≡ Reduce r
  pub accept : (q : ℕ) → q < length v.built.states → Contains (state_of v.built q) accept_item →
      action_at v q end_token ≡ Accept
