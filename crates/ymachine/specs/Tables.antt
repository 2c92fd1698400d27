-- What the tables say: cells and gotos by state, rules by number.
use Rattle.std.specs.Prelude.{ℕ, ◌&&◌, nat_lt, List, [], ◌∷◌, length, Option}
use Rattle.std.specs.Prelude.{Some, None, if◌then◌else◌}
use Rattle.ysymbols.specs.Grammar.{Production}
use Rattle.ysymbols.specs.Grammar as grammar
use Rattle.ylalr.specs.Collection.{goto_in}
use Rattle.ytables.specs.declared.cell.Action.{Action}
use Rattle.ytables.specs.declared.cell.Action.TheVariants as actions
use Rattle.ytables.specs.Tables.{TablesValue as Tables, action_at}

-- the left side and the body of a rule
abbrev pub rule_of : Tables → ℕ → Production
rule_of t r = grammar.rule_of t.built.grammar.bare r

-- where a symbol leads from a state
abbrev pub goto_at : Tables → ℕ → ℕ → Option ℕ
goto_at t q symbol =
    if nat_lt q (length t.built.states) && nat_lt symbol t.built.grammar.bare.symbols
    then goto_in t.built q symbol else None

-- what the cell of a state and a token says
abbrev pub cell_at : Tables → ℕ → ℕ → Action
cell_at t q token =
    if nat_lt q (length t.built.states) && nat_lt token t.built.grammar.bare.tokens
    then action_at t q token else actions.Error

-- where a symbol leads from a state, where there is one
abbrev pub goto_from : Tables → Option ℕ → ℕ → Option ℕ
goto_from t None symbol = None
goto_from t (Some q) symbol = goto_at t q symbol

-- the state that the gotos reach over these symbols, where they reach one
abbrev pub walk : Tables → Option ℕ → List ℕ → Option ℕ
walk t q [] = q
walk t q (symbol ∷ symbols) = walk t (goto_from t q symbol) symbols

-- the state of a stack: what the gotos reach from state 0 over its symbols
abbrev pub state_after : Tables → List ℕ → Option ℕ
state_after t stack = walk t (Some 0) stack

-- the cell of a state and a token, an error where there is no state
abbrev pub cell_in : Tables → Option ℕ → ℕ → Action
cell_in t None token = actions.Error
cell_in t (Some q) token = cell_at t q token
