-- The symbol over which gotos lead to a state: the one before the dots in it.
use Rattle.std.specs.Prelude.{ℕ, suc, ◌≡◌, ◌-◌, ◌⊎◌, Bool, not, List, ◌∷◌, drop, Option, Some, None}
use Rattle.std.specs.Prelude.{nat_eq, slice_index}
use Rattle.std.specs.List.{Contains, find}
use Rattle.ysymbols.specs.Grammar.{ContextFree, body_of}
use Rattle.ylalr.specs.declared.items.Item.{Item}

-- the symbol stands right before the dot of the item
abbrev pub IsBefore : ContextFree → Item → ℕ → Type 0
IsBefore g i s = (d : ℕ) × (i.dot ≡ suc d) × ((y : List ℕ) × (drop d (body_of g i.rule) ≡ s ∷ y))

-- the symbol stands before the dot of an item of the list, or no symbol stands before any, and it
-- is 0
abbrev pub StandsBefore : ContextFree → List Item → ℕ → Type 0
StandsBefore g k s = ((i : Item) × Contains k i × IsBefore g i s) ⊎
    (((i : Item) → Contains k i → i.dot ≡ 0) × (s ≡ 0))

-- the dot of the item has moved
abbrev pub has_moved : Item → Bool
has_moved i = not (nat_eq i.dot 0)

-- the symbol before the dot of an item, or 0
abbrev pub symbol_behind : ContextFree → Option Item → ℕ
symbol_behind g None = 0
symbol_behind g (Some i) = slice_index (body_of g i.rule) (i.dot - 1)

-- the symbol before the dot of the first item in which it has moved, or 0
abbrev pub symbol_for : ContextFree → List Item → ℕ
symbol_for g k = symbol_behind g (find has_moved k)
