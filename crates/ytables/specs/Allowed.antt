-- What an action of a state needs of its items.
use Rattle.std.specs.Prelude.{ℕ, ◌≡◌, ◌≢◌, ◌<◌, List, ◌∷◌, length}
use Rattle.std.specs.List.{Contains}
use Rattle.ysymbols.specs.Grammar.{ContextFree, body_of, end_token}
use Rattle.ylalr.specs.declared.items.Item.{Item}
use Rattle.ylalr.specs.Collection.{bare_of, state_of}
use Rattle.ytables.specs.declared.cell.Action.{Action}
use Rattle.ytables.specs.declared.cell.Action.TheVariants.{Shift, Reduce, Accept, Error}
use Rattle.ytables.specs.Tables.{TablesValue, after_dot, action_at}

-- the item of rule r with its dot at the end
abbrev pub complete_of : ContextFree → ℕ → Item
complete_of g r = record { rule = r; dot = length (body_of g r) }

-- the item of rule 0 with its dot after the start symbol
abbrev pub accept_item : Item
accept_item = record { rule = 0; dot = 1 }

-- an item of the state has its dot before the token, which is not the end
abbrev pub ShiftsIn : ContextFree → List Item → ℕ → Type 0
ShiftsIn g k t = (i : Item) × Contains k i × ((y : List ℕ) × (after_dot g i ≡ t ∷ y)) ×
    (t ≢ end_token)

-- A shift has an item before its token, a reduction its complete item, an acceptance the item of
-- rule 0 before the end.
abbrev pub Allows : ContextFree → List Item → ℕ → Action → Type 0
Allows g k t (Shift n) = ShiftsIn g k t
Allows g k t (Reduce r) = (r ≢ 0) × (r < length g.rules) × Contains k (complete_of g r)
Allows g k t Accept = (t ≡ end_token) × Contains k accept_item
Allows g k t Error = Unit {0}

-- The tables' actions are all allowed.
abbrev pub CellsAllow : TablesValue → Type 0
CellsAllow v = (q t : ℕ) → q < length v.built.states → t < v.built.grammar.bare.tokens →
    Allows (bare_of v.built) (state_of v.built q) t (action_at v q t)
