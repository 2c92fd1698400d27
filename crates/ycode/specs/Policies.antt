-- Default reductions: by which rule a state reduces at tokens at which its cells are errors.
use Rattle.std.specs.Prelude.{ℕ, Bool, true, false, not, ◌&&◌, ◌||◌, Option, Some, None, nat_eq}
use Rattle.std.specs.Prelude.{if◌then◌else◌}
use Rattle.std.specs.List.{list_all, range_with_len}
use Rattle.ysymbols.specs.Grammar.{error_token}
use Rattle.ytables.specs.declared.cell.Action.{Action}
use Rattle.ytables.specs.declared.cell.Action.TheVariants.{Shift, Reduce, Accept, Error}
use Rattle.ytables.specs.Cell.{is_reduce}
use Rattle.ytables.specs.Tables.{TablesValue, action_at, default_at}
use Rattle.ycode.specs.declared.policy.Policy.{Policy}
use Rattle.ycode.specs.declared.policy.Policy.TheVariants.{Consistent, Lone, Sole, Most}
use Rattle.ycode.specs.States.{is_error, is_refused, reductions_in, tokens_of, rules_of}
use Rattle.ycode.specs.Usual.{commonest}

-- the action is a shift
abbrev pub is_shift : Action → Bool
is_shift (Shift n) = true
is_shift (Reduce r) = false
is_shift Accept = false
is_shift Error = false

-- The cell of state q at the token t lets the state reduce by rule r by default.
-- `Lone`: nothing but this reduction is left there, and no error of `%nonassoc` (POSIX yacc,
-- "Conflicts": such an error is one of the language).
-- `Sole`: nothing but this reduction is left there (byacc, `sole_reduction`).
-- `Most`: it is no shift of `error` (bison, `action_row`).
abbrev pub permits : Policy → TablesValue → ℕ → ℕ → ℕ → Bool
permits Consistent v q r t = is_reduce r (action_at v q t)
permits Lone v q r t = is_reduce r (action_at v q t) ||
    (is_error (action_at v q t) && not (is_refused v q t))
permits Sole v q r t = is_reduce r (action_at v q t) || is_error (action_at v q t)
permits Most v q r t = not (nat_eq t error_token && is_shift (action_at v q t))

-- each cell of state q lets it reduce by rule r by default
abbrev pub permits_all : Policy → TablesValue → ℕ → ℕ → Bool
permits_all p v q r = list_all (permits p v q r) (range_with_len 0 (tokens_of v))

-- the rule, where the state may reduce by it by default
abbrev pub permitted : Policy → TablesValue → ℕ → Option ℕ → Option ℕ
permitted p v q None = None
permitted p v q (Some r) = if permits_all p v q r then Some r else None

-- The rule that state q reduces by by default: `Consistent`: that of a consistent state (bison,
-- `%define lr.default-reduction consistent`); else the one that most of its cells reduce by.
abbrev pub rule_for : Policy → TablesValue → ℕ → Option ℕ
rule_for Consistent v q = default_at v q
rule_for Lone v q = permitted Lone v q (commonest (rules_of v) (reductions_in v q))
rule_for Sole v q = permitted Sole v q (commonest (rules_of v) (reductions_in v q))
rule_for Most v q = permitted Most v q (commonest (rules_of v) (reductions_in v q))

-- the cell stays an error beside a default reduction: one that comes of `%nonassoc`, which byacc
-- forgets
abbrev pub stays_error : Policy → TablesValue → ℕ → ℕ → Bool
stays_error Consistent v q t = is_refused v q t
stays_error Lone v q t = is_refused v q t
stays_error Sole v q t = false
stays_error Most v q t = is_refused v q t

-- the action, or the default reduction in the place of an error that doesn't stay
abbrev pub filled_by : Bool → Option ℕ → Action → Action
filled_by stays None action = action
filled_by stays (Some r) action = if is_error action && not stays then Reduce r else action

-- what state q does at the token t
abbrev pub act_at : Policy → TablesValue → ℕ → ℕ → Action
act_at p v q t = filled_by (stays_error p v q t) (rule_for p v q) (action_at v q t)

-- state q reduces by rule r at each token
abbrev pub reduces_always : Policy → TablesValue → ℕ → ℕ → Bool
reduces_always p v q r =
    list_all (λ t. is_reduce r (act_at p v q t)) (range_with_len 0 (tokens_of v))

-- the rule, where state q reduces by it at each token
abbrev pub always_by : Policy → TablesValue → ℕ → Option ℕ → Option ℕ
always_by p v q None = None
always_by p v q (Some r) = if reduces_always p v q r then Some r else None

-- the rule that state q reduces by before a token is read: it does so at each
abbrev pub always_at : Policy → TablesValue → ℕ → Option ℕ
always_at p v q = always_by p v q (rule_for p v q)
