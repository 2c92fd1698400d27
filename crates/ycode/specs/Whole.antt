-- The arrays of a C parser as a function of the tables: the usual reduction of each state and the
-- set of tokens at which it is made, usual gotos, and combs of what is left.
use Rattle.std.specs.Prelude.{ℕ, ◌+◌, ◌-◌, List, length, map}
use Rattle.std.specs.List.{range_with_len}
use Rattle.ysymbols.specs.Grammar.{left_of, body_of}
use Rattle.ylalr.specs.Collection.{bare_of, state_of}
use Rattle.ytables.specs.Tables.{TablesValue}
use Rattle.ycode.specs.declared.code.Code.{Code}
use Rattle.ycode.specs.declared.entry.Entry.{Entry}
use Rattle.ycode.specs.declared.policy.Policy.{Policy}
use Rattle.ycode.specs.Cells.{states_of, tokens_of, symbols_of, rules_of, span_of, wanted_at}
use Rattle.ycode.specs.Cells.{usual_rule, set_number, sets_to}
use Rattle.ycode.specs.Entries.{entries_for}
use Rattle.ycode.specs.Layout.{comb_for}
use Rattle.ycode.specs.Symbols.{symbol_for}
use Rattle.ycode.specs.Targets.{gotos_over, usual_targets, goto_entries}
use Rattle.ycode.specs.Translation.{tokens_for}
use Rattle.ycode.specs.Usual.{most_usual}

-- the numbers of the states
abbrev pub states_in : TablesValue → List ℕ
states_in v = range_with_len 0 (states_of v)

-- and of the rules
abbrev pub rules_in : TablesValue → List ℕ
rules_in v = range_with_len 0 (rules_of v)

-- the entries of the actions of each state beside its usual reduction
abbrev pub action_rows : Policy → TablesValue → List (List Entry)
action_rows p v = map (λ q. entries_for (wanted_at p v (usual_rule p v q) q) (tokens_of v)) (states_in v)

-- the entries of the gotos over each nonterminal beside its usual target
abbrev pub goto_rows : TablesValue → List (List Entry)
goto_rows v = map (λ x. goto_entries v (most_usual (gotos_over v x)) x)
    (range_with_len 0 (symbols_of v - tokens_of v))

-- the arrays of the parser by these tables under a policy of default reductions
unfoldable pub code_for : Policy → TablesValue → Code
code_for p v = record {
  states = states_of v;
  rules = rules_of v;
  tokens = tokens_of v;
  actions = comb_for (tokens_of v + 1) (action_rows p v);
  usual = map (usual_rule p v) (states_in v);
  sets = map (λ q. set_number p v (sets_to p v (q + 1)) q) (states_in v);
  span = span_of v;
  bits = (sets_to p v (states_of v)).bytes;
  gotos = comb_for (states_of v) (goto_rows v);
  targets = usual_targets v;
  symbols = map (λ q. symbol_for (bare_of v.built) (state_of v.built q)) (states_in v);
  lengths = map (λ r. length (body_of (bare_of v.built) r)) (rules_in v);
  lefts = map (λ r. left_of (bare_of v.built) r - tokens_of v) (rules_in v);
  numbers = tokens_for v.built.grammar.numbers;
}
