-- The text of the table: symbols, rules, and for each state its default rule or its actions, and
-- its gotos.
use Rattle.std.specs.Prelude.{ℕ, ◌++◌, List, [], length, codes, decimal, Option, Some, None}
use Rattle.std.specs.Prelude.{slice_get, flat_map}
use Rattle.std.specs.List.{range_with_len}
use Rattle.ysymbols.specs.Grammar.{GrammarValue, left_of, body_of}
use Rattle.ylalr.specs.Collection.{goto_in}
use Rattle.ytables.specs.declared.cell.Action.{Action}
use Rattle.ytables.specs.declared.cell.Action.TheVariants.{Shift, Reduce, Accept, Error}
use Rattle.ytables.specs.Tables.{TablesValue, action_at, default_at, tokens_of, states_of}
use Rattle.ytables.specs.Text.{name_of, count_line, pair_line, rules_of, nonterminals_of}

-- a token has a number, a nonterminal none
abbrev pub number_text : Option ℕ → List ℕ
number_text (Some n) = codes " t " ++ decimal n
number_text None = codes " n -"

-- the line of a symbol
abbrev pub symbol_line : GrammarValue → ℕ → List ℕ
symbol_line v s = decimal s ++ (number_text (slice_get v.numbers s) ++
    (codes " " ++ (name_of v s ++ codes "\n")))

-- the number of a rule, its left side and the length of its body
abbrev pub rule_line : GrammarValue → ℕ → List ℕ
rule_line v r = decimal r ++ (codes " " ++ pair_line [] (left_of v.bare r)
    (length (body_of v.bare r)))

-- what begins the line of state q and the symbol t
abbrev pub place_text : List ℕ → ℕ → ℕ → List ℕ
place_text words q t = words ++ (decimal q ++ (codes " " ++ decimal t))

-- an action, nothing for an error
abbrev pub action_text : Action → List ℕ
action_text (Shift n) = count_line (codes " s ") n
action_text (Reduce r) = count_line (codes " r ") r
action_text Accept = codes " acc\n"
action_text Error = []

-- the line of an action; nothing for an error
abbrev pub action_line : ℕ → ℕ → Action → List ℕ
action_line q t (Shift n) = place_text (codes "a ") q t ++ action_text (Shift n)
action_line q t (Reduce r) = place_text (codes "a ") q t ++ action_text (Reduce r)
action_line q t Accept = place_text (codes "a ") q t ++ action_text Accept
action_line q t Error = []

-- the line of a goto, where there is one
abbrev pub goto_line : ℕ → ℕ → Option ℕ → List ℕ
goto_line q x None = []
goto_line q x (Some n) = place_text (codes "g ") q x ++ count_line (codes " ") n

-- the actions of a state
abbrev pub actions_text : TablesValue → ℕ → List ℕ
actions_text v q = flat_map (λ t. action_line q t (action_at v q t)) (tokens_of v.built.grammar)

-- the default rule of a consistent state, or the actions
abbrev pub rule_or_actions : TablesValue → ℕ → Option ℕ → List ℕ
rule_or_actions v q (Some r) = pair_line (codes "d ") q r
rule_or_actions v q None = actions_text v q

-- the gotos of a state
abbrev pub gotos_text : TablesValue → ℕ → List ℕ
gotos_text v q = flat_map (λ x. goto_line q x (goto_in v.built q x))
    (nonterminals_of v.built.grammar)

-- the lines of a state
abbrev pub state_lines : TablesValue → ℕ → List ℕ
state_lines v q = rule_or_actions v q (default_at v q) ++ gotos_text v q

-- the lines of all symbols
abbrev pub symbol_lines : GrammarValue → List ℕ
symbol_lines v = flat_map (symbol_line v) (range_with_len 0 v.bare.symbols)

-- the lines of all rules
abbrev pub rule_lines : GrammarValue → List ℕ
rule_lines v = flat_map (rule_line v) (rules_of v)

-- the lines of all states
abbrev pub all_states : TablesValue → List ℕ
all_states v = flat_map (state_lines v) (states_of v.built)

-- the states, and the end
abbrev pub states_part : TablesValue → List ℕ
states_part v = count_line (codes "states ") (length v.built.states) ++
    (all_states v ++ codes "end\n")

-- the rules, and all that follows them
abbrev pub rules_part : TablesValue → List ℕ
rules_part v = count_line (codes "rules ") (length v.built.grammar.bare.rules) ++
    (rule_lines v.built.grammar ++ states_part v)

-- The text of the table.
abbrev pub table_of : TablesValue → List ℕ
table_of v = count_line (codes "table 2\nsymbols ") v.built.grammar.bare.symbols ++
    (symbol_lines v.built.grammar ++ rules_part v)
