-- The text of the report: rules, those that can't be reached, tokens, and each state with its
-- items, actions and conflicts.
use Rattle.std.specs.Prelude.{ℕ, ◌≡◌, ◌<◌, ◌&&◌, ◌++◌, List, [], length, codes, decimal, take}
use Rattle.std.specs.Prelude.{Option, Some}
use Rattle.std.specs.Prelude.{None, false, if◌then◌else◌, nat_eq, slice_get, slice_index_or}
use Rattle.std.specs.Prelude.{unwrap_or, flat_map}
use Rattle.ysymbols.specs.Grammar.{GrammarValue, left_of, body_of}
use Rattle.ylalr.specs.declared.items.Item.{Item}
use Rattle.ylalr.specs.Collection.{Guide, state_of, goto_in}
use Rattle.ytables.specs.declared.cell.Action.{Action}
use Rattle.ytables.specs.declared.cell.Action.TheVariants.{Shift, Reduce, Accept, Error}
use Rattle.ytables.specs.declared.cell.Cell.{Cell}
use Rattle.ytables.specs.declared.cell.Conflict.{Conflict}
use Rattle.ytables.specs.Tables.{TablesValue, action_at, default_at, cell_in, after_dot, is_empty}
use Rattle.ytables.specs.Tables.{tokens_of, states_of}
use Rattle.ytables.specs.Text.{name_of, spaced_names, count_line, pair_line, rules_of}
use Rattle.ytables.specs.Text.{nonterminals_of}

-- the number of a rule, its left side, and words
abbrev pub rule_head : GrammarValue → ℕ → List ℕ → List ℕ
rule_head v r words = decimal r ++ (codes " " ++ (name_of v (left_of v.bare r) ++ words))

-- the line of a rule
abbrev pub rule_text : GrammarValue → ℕ → List ℕ
rule_text v r =
    rule_head v r (codes ":") ++ (spaced_names (name_of v) (body_of v.bare r) ++ codes "\n")

-- the line of a rule whose left side can't be reached
abbrev pub unreachable_line : GrammarValue → ℕ → List ℕ
unreachable_line v r =
    if slice_index_or v.reachable (left_of v.bare r) false then [] else rule_head v r (codes "\n")

-- the line of a token
abbrev pub token_line : GrammarValue → ℕ → List ℕ
token_line v t = decimal (unwrap_or (slice_get v.numbers t) 0) ++
    (codes " " ++ (name_of v t ++ codes "\n"))

-- the token after a space, where it is a lookahead of the item
abbrev pub look_text : TablesValue → Guide → ℕ → Item → ℕ → List ℕ
look_text v u q i t = if u.looks q i t then codes " " ++ name_of v.built.grammar t else []

-- the lookaheads of an item
abbrev pub looks_text : TablesValue → Guide → ℕ → Item → List ℕ
looks_text v u q i = flat_map (look_text v u q i) (tokens_of v.built.grammar)

-- the item is the one at the index among those of state q
pub record StandsAt (v : TablesValue) (q index : ℕ) (i : Item) : Type 0 where
  pub inside : index < length (state_of v.built q)
  pub item : (d : Item) → slice_index_or (state_of v.built q) index d ≡ i

-- what follows a complete item
abbrev pub on_text : TablesValue → Guide → ℕ → Item → List ℕ
on_text v u q i = if is_empty (after_dot v.built.grammar.bare i) then codes " on" ++ looks_text v u
    q i else []

-- the left side of an item, and a colon
abbrev pub item_left : GrammarValue → ℕ → List ℕ
item_left v r = codes "  " ++ (name_of v (left_of v.bare r) ++ codes ":")

-- the left side, and the body up to the dot, which is a period
abbrev pub item_front : GrammarValue → Item → List ℕ
item_front v i = item_left v i.rule ++
    (spaced_names (name_of v) (take i.dot (body_of v.bare i.rule)) ++ codes " .")

-- the body from the dot on, and for a complete item its lookaheads
abbrev pub item_back : TablesValue → Guide → ℕ → Item → List ℕ
item_back v u q i = spaced_names (name_of v.built.grammar) (after_dot v.built.grammar.bare i) ++
    (on_text v u q i ++ codes "\n")

-- the line of an item
abbrev pub item_line : TablesValue → Guide → ℕ → Item → List ℕ
item_line v u q i = item_front v.built.grammar i ++ item_back v u q i

-- the line of the item at the index among those of state q
abbrev pub item_text_at : TablesValue → Guide → ℕ → ℕ → List ℕ
item_text_at v u q k =
    item_line v u q (slice_index_or (state_of v.built q) k (record { rule = 0; dot = 0 }))

-- a name after two spaces, and words after it
abbrev pub line_for : GrammarValue → ℕ → List ℕ → List ℕ
line_for v s words = codes "  " ++ (name_of v s ++ words)

-- the line of an action; nothing for an error
abbrev pub action_line : GrammarValue → ℕ → Action → List ℕ
action_line v t (Shift n) = line_for v t (count_line (codes " shift ") n)
action_line v t (Reduce r) = line_for v t (count_line (codes " reduce ") r)
action_line v t Accept = line_for v t (codes " accept\n")
action_line v t Error = []

-- the line of a goto, where there is one
abbrev pub goto_line : GrammarValue → ℕ → Option ℕ → List ℕ
goto_line v x None = []
goto_line v x (Some n) = line_for v x (count_line (codes " goto ") n)

-- the line of a conflict
abbrev pub conflict_text : GrammarValue → Conflict → List ℕ
conflict_text v k =
    line_for v k.token (pair_line (codes " conflicts ") k.shift_reduce k.reduce_reduce)

-- the line of the conflict at the index
abbrev pub conflict_text_at : GrammarValue → List Conflict → ℕ → List ℕ
conflict_text_at v conflicts k = conflict_text v
    (slice_index_or conflicts k (record { token = 0; shift_reduce = 0; reduce_reduce = 0 }))

-- the line of a cell that counts a conflict
abbrev pub conflict_line : GrammarValue → ℕ → Cell → List ℕ
conflict_line v t c =
    if nat_eq c.shift_reduce 0 && nat_eq c.reduce_reduce 0 then [] else line_for v t
    (pair_line (codes " conflicts ") c.shift_reduce c.reduce_reduce)

-- the actions of a state
abbrev pub actions_text : TablesValue → ℕ → List ℕ
actions_text v q = flat_map (λ t. action_line v.built.grammar t (action_at v q t))
    (tokens_of v.built.grammar)

-- the default rule of a consistent state, or the actions
abbrev pub rule_or_actions : TablesValue → ℕ → Option ℕ → List ℕ
rule_or_actions v q (Some r) = count_line (codes "  . reduce ") r
rule_or_actions v q None = actions_text v q

-- the gotos of a state
abbrev pub gotos_text : TablesValue → ℕ → List ℕ
gotos_text v q = flat_map (λ x. goto_line v.built.grammar x (goto_in v.built q x))
    (nonterminals_of v.built.grammar)

-- the conflicts of a state
abbrev pub conflicts_text : TablesValue → Guide → ℕ → List ℕ
conflicts_text v u q = flat_map (λ t. conflict_line v.built.grammar t (cell_in v.built u q t))
    (tokens_of v.built.grammar)

-- the items of a state
abbrev pub items_text : TablesValue → Guide → ℕ → List ℕ
items_text v u q = flat_map (item_line v u q) (state_of v.built q)

-- what a state does
abbrev pub cells_text : TablesValue → Guide → ℕ → List ℕ
cells_text v u q = rule_or_actions v q (default_at v q) ++ (gotos_text v q ++ conflicts_text v u q)

-- a state
abbrev pub state_text : TablesValue → Guide → ℕ → List ℕ
state_text v u q = count_line (codes "State ") q ++ (items_text v u q ++ cells_text v u q)

-- how many states and conflicts there are
abbrev pub counts_text : TablesValue → List ℕ
counts_text v = count_line (codes "States ") (length v.built.states) ++ pair_line
    (codes "Conflicts ") v.shift_reduce v.reduce_reduce

-- all states
abbrev pub states_text : TablesValue → Guide → List ℕ
states_text v u = flat_map (state_text v u) (states_of v.built)

-- the tokens, and all that follows them
abbrev pub tokens_part : TablesValue → Guide → List ℕ
tokens_part v u = codes "Tokens\n" ++ (flat_map (token_line v.built.grammar)
    (tokens_of v.built.grammar) ++ (states_text v u ++ counts_text v))

-- the rules that cannot be reached, and all that follows them
abbrev pub unreachable_part : TablesValue → Guide → List ℕ
unreachable_part v u = codes "Unreachable\n" ++ (flat_map (unreachable_line v.built.grammar)
    (rules_of v.built.grammar) ++ tokens_part v u)

-- The text of the report.
abbrev pub report_of : TablesValue → Guide → List ℕ
report_of v u = codes "Rules\n" ++ (flat_map (rule_text v.built.grammar)
    (rules_of v.built.grammar) ++ unreachable_part v u)
