-- What tables say of a state, beside its actions.
use Rattle.std.specs.Prelude.{ℕ, ◌<◌, Bool, true, false, ◌&&◌, List, length, map, Option, Some, None}
use Rattle.std.specs.Prelude.{is_some}
use Rattle.std.specs.List.{range_with_len}
use Rattle.ytables.specs.declared.cell.Action.{Action}
use Rattle.ytables.specs.declared.cell.Action.TheVariants.{Shift, Reduce, Accept, Error}
use Rattle.ytables.specs.Tables.{TablesValue, action_at}
use Rattle.yprovenance.specs.Candidates.{shift_in}

-- how many states, tokens, rules and symbols tables have
abbrev pub states_of : TablesValue → ℕ
states_of v = length v.built.states

abbrev pub tokens_of : TablesValue → ℕ
tokens_of v = v.built.grammar.bare.tokens

abbrev pub rules_of : TablesValue → ℕ
rules_of v = length v.built.grammar.bare.rules

abbrev pub symbols_of : TablesValue → ℕ
symbols_of v = v.built.grammar.bare.symbols

-- a shift is to one of so many states, a reduction by one of so many rules other than rule 0
abbrev pub Fits : ℕ → ℕ → Action → Type 0
Fits states rules (Shift n) = n < states
Fits states rules (Reduce r) = (0 < r) × (r < rules)
Fits states rules Accept = Unit {0}
Fits states rules Error = Unit {0}

-- the action is an error
abbrev pub is_error : Action → Bool
is_error (Shift n) = false
is_error (Reduce r) = false
is_error Accept = false
is_error Error = true

-- the cell is an error although its token could be shifted: one that comes of `%nonassoc`
abbrev pub is_refused : TablesValue → ℕ → ℕ → Bool
is_refused v q t = is_error (action_at v q t) && is_some (shift_in v.built q t)

-- the rule that an action reduces by, where it reduces
abbrev pub rule_in : Action → Option ℕ
rule_in (Shift n) = None
rule_in (Reduce r) = Some r
rule_in Accept = None
rule_in Error = None

-- for each token the rule that state q reduces by at it
abbrev pub reductions_in : TablesValue → ℕ → List (Option ℕ)
reductions_in v q = map (λ t. rule_in (action_at v q t)) (range_with_len 0 (tokens_of v))
