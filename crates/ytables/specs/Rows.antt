-- The row of one state: what the code has found of its cells.
use Rattle.std.specs.Prelude.{ℕ, ◌≡◌, ◌<◌, ◌*◌, Bool, true, List, ◌∷◌, length, map, Option}
use Rattle.std.specs.List.{All, list_any, list_all, sum_by, range_with_len}
use Rattle.ysymbols.specs.Grammar.{ContextFree, most_symbols, most_rules}
use Rattle.ylalr.specs.declared.items.Item.{Item}
use Rattle.ylalr.specs.Collection.{Collection, Guide}
use Rattle.ytables.specs.declared.cell.Action.{Action}
use Rattle.ytables.specs.declared.cell.Action.TheVariants.{Reduce}
use Rattle.ytables.specs.Cell.{is_reduce}
use Rattle.ytables.specs.Tables.{cell_in, default_in}

-- the items are of rules of the grammar
abbrev pub InGrammar : ContextFree → List Item → Type 0
InGrammar g items = All (λ (i : Item). i.rule < length g.rules) items

-- the cells of state q at the tokens below n, and what they count
pub record IsRowTo (m : Collection) (u : Guide) (q n : ℕ) (row : List Action) (shifts reduces : ℕ)
    (chosen : Bool) : Type 0 where
  pub actions : row ≡ map (λ t. (cell_in m u q t).action) (range_with_len 0 n)
  pub shift_reduce : shifts ≡ sum_by (λ t. (cell_in m u q t).shift_reduce) (range_with_len 0 n)
  pub reduce_reduce : reduces ≡ sum_by (λ t. (cell_in m u q t).reduce_reduce) (range_with_len 0 n)
  pub choice : chosen ≡ list_any (λ t. (cell_in m u q t).choice) (range_with_len 0 n)

-- the actions, of which there are some, all reduce by rule r
pub record ReduceBy (r : ℕ) (actions : List Action) : Type 0 where
  pub rest : List Action
  pub first : actions ≡ Reduce r ∷ rest
  pub same : list_all (is_reduce r) rest ≡ true

-- the most conflicts of one kind in a row: one for each rule at each token
abbrev pub most_in_row : ℕ
most_in_row = most_symbols * most_rules

-- The whole row of state q: the actions of its cells, its default rule, and what the cells count.
pub record IsRow (m : Collection) (u : Guide) (q : ℕ) (row : List Action) (rule : Option ℕ)
    (shifts reduces : ℕ) (chosen : Bool) : Type 0 where
  pub cells : IsRowTo m u q m.grammar.bare.tokens row shifts reduces chosen
  pub default : rule ≡ default_in m u q
