-- What the tables of an automaton say: its cells, with default reductions in consistent states.
use Rattle.std.specs.Prelude.{ℕ, ◌≡◌, ◌+◌, ◌-◌, ◌<◌, ◌≤◌, Bool, true, false, not, ◌&&◌, List, []}
use Rattle.std.specs.Prelude.{◌∷◌, length, map, drop, Option, Some, None, if◌then◌else◌, nat_eq}
use Rattle.std.specs.Prelude.{slice_index_or, unwrap_or, flat_map}
use Rattle.std.specs.List.{filter, list_any, sum_by, range_with_len}
use Rattle.ysymbols.specs.declared.precedence.Precedence.{Precedence}
use Rattle.ysymbols.specs.Grammar.{ContextFree, GrammarValue, body_of, end_token}
use Rattle.ylalr.specs.declared.items.Item.{Item}
use Rattle.ylalr.specs.Collection.{Collection, Guide, IsGuide, state_of, goto_in}
use Rattle.ytables.specs.declared.class.Class.{Class}
use Rattle.ytables.specs.declared.cell.Action.{Action}
use Rattle.ytables.specs.declared.cell.Action.TheVariants.{Shift, Accept, Error}
use Rattle.ytables.specs.declared.cell.Cell.{Cell}
use Rattle.ytables.specs.declared.cell.Conflict.{Conflict}
use Rattle.ybitsets.specs.Packed.{PackedRows, entry_of}
use Rattle.ytables.specs.Cell.{class_of, cell_of, is_filled, common, by_default}

-- the symbols from the dot on
abbrev pub after_dot : ContextFree → Item → List ℕ
after_dot g i = drop i.dot (body_of g i.rule)

-- the form begins with t
abbrev pub begins_with : ℕ → List ℕ → Bool
begins_with t [] = false
begins_with t (x ∷ y) = nat_eq x t

-- the form is empty
abbrev pub is_empty : List ℕ → Bool
is_empty [] = true
is_empty (x ∷ y) = false

-- the item has its dot before t
abbrev pub is_before : ContextFree → ℕ → Item → Bool
is_before g t i = begins_with t (after_dot g i)

-- an item of the state has its dot before t
abbrev pub has_before : ContextFree → List Item → ℕ → Bool
has_before g k t = list_any (is_before g t) k

-- the item is complete, and of another rule than rule 0
abbrev pub is_ready : ContextFree → Item → Bool
is_ready g i = not (nat_eq i.rule 0) && is_empty (after_dot g i)

-- the complete items of the state
abbrev pub ready_in : ContextFree → List Item → List Item
ready_in g k = filter (is_ready g) k

-- a shift to this state
abbrev pub shift_to : Option ℕ → Action
shift_to None = Error
shift_to (Some n) = Shift n

-- the shift of t by these gotos; for the end token the acceptance
abbrev pub shift_of : (ℕ → Option ℕ) → ℕ → Action
shift_of to t = if nat_eq t end_token then Accept else shift_to (to t)

-- the shift of t, where it is a candidate
abbrev pub shift_by : ContextFree → (ℕ → Option ℕ) → List Item → ℕ → Option Action
shift_by g to k t = if has_before g k t then Some (shift_of to t) else None

-- the rules of the items that pass the test
abbrev pub rules_by : (Item → Bool) → List Item → List ℕ
rules_by test items = map (λ (i : Item). i.rule) (filter test items)

-- the class of a rule against a shift of this precedence
abbrev pub class_at : GrammarValue → Option Precedence → ℕ → Class
class_at v level r = class_of level (slice_index_or v.rule_precedences r None)

-- the precedence of a token; the end has none
abbrev pub level_of : GrammarValue → ℕ → Option Precedence
level_of v t = if nat_eq t end_token then None else slice_index_or v.token_precedences t None

-- rule r against the shift of token t
abbrev pub class_in : GrammarValue → ℕ → ℕ → Class
class_in v t = class_at v (level_of v t)

-- The cell of the state with these items at the token t, by the gotos from the state and the
-- lookaheads of its items.
abbrev pub cell_by : GrammarValue → (ℕ → Option ℕ) → (Item → ℕ → Bool) → List Item → ℕ → Cell
cell_by v to looks k t = cell_of (class_in v t) (shift_by v.bare to k t)
    (rules_by (λ i. looks i t) (ready_in v.bare k))

-- all tokens, by number
abbrev pub tokens_of : GrammarValue → List ℕ
tokens_of v = range_with_len 0 v.bare.tokens

-- the actions of the state with these items
abbrev pub row_by : GrammarValue → (ℕ → Option ℕ) → (Item → ℕ → Bool) → List Item → List Action
row_by v to looks k = map (λ t. (cell_by v to looks k t).action) (tokens_of v)

-- The rule of a consistent state: no item has its dot before a token, and all filled cells reduce
-- by this rule.
abbrev pub default_by : GrammarValue → (ℕ → Option ℕ) → (Item → ℕ → Bool) → List Item → Option ℕ
default_by v to looks k =
    if list_any (has_before v.bare k) (tokens_of v) then None else common
    (filter is_filled (row_by v to looks k))

-- the cell of state q at the token t
abbrev pub cell_in : Collection → Guide → ℕ → ℕ → Cell
cell_in m u q t = cell_by m.grammar (goto_in m q) (u.looks q) (state_of m q) t

-- the default rule of state q
abbrev pub default_in : Collection → Guide → ℕ → Option ℕ
default_in m u q = default_by m.grammar (goto_in m q) (u.looks q) (state_of m q)

-- The action of state q at the token t: the default reduction, or that of the cell.
abbrev pub action_in : Collection → Guide → ℕ → ℕ → Action
action_in m u q t = by_default (default_in m u q) (cell_in m u q t).action

-- the shift/reduce conflicts of one state; default reductions leave them as they are
abbrev pub row_shift_reduce : Collection → Guide → ℕ → ℕ
row_shift_reduce m u q = sum_by (λ t. (cell_in m u q t).shift_reduce) (tokens_of m.grammar)

-- its reduce/reduce conflicts
abbrev pub row_reduce_reduce : Collection → Guide → ℕ → ℕ
row_reduce_reduce m u q = sum_by (λ t. (cell_in m u q t).reduce_reduce) (tokens_of m.grammar)

-- a cell of the state has a choice
abbrev pub row_choice : Collection → Guide → ℕ → Bool
row_choice m u q = list_any (λ t. (cell_in m u q t).choice) (tokens_of m.grammar)

-- all states, by number
abbrev pub states_of : Collection → List ℕ
states_of m = range_with_len 0 (length m.states)

-- The value of tables: rows of actions, in which an error has no entry, and default rules.
pub record TablesValue : Type 0 where
  pub built : Collection
  pub actions : List (List (Option Action))
  pub defaults : List (Option ℕ)
  pub shift_reduce : ℕ
  pub reduce_reduce : ℕ
  pub choice : Bool

-- the default rule of state q, by a list of them
abbrev pub rule_at : List (Option ℕ) → ℕ → Option ℕ
rule_at defaults q = slice_index_or defaults q None

-- the action by these rows and default rules
abbrev pub act_at : List (List (Option Action)) → List (Option ℕ) → ℕ → ℕ → Action
act_at actions defaults q t = by_default (rule_at defaults q)
    (unwrap_or (entry_of actions q t) Error)

-- the default rule of state q by the tables
abbrev pub default_at : TablesValue → ℕ → Option ℕ
default_at v q = rule_at v.defaults q

-- the action of state q at token t by the tables
abbrev pub action_at : TablesValue → ℕ → ℕ → Action
action_at v q t = act_at v.actions v.defaults q t

-- The actions and default rules of the states below n are those of the cells.
pub record AreRowsTo (m : Collection) (u : Guide) (n : ℕ) (act : ℕ → ℕ → Action)
    (rule : ℕ → Option ℕ) : Type 0 where
  pub action : (q t : ℕ) → q < n → t < m.grammar.bare.tokens → act q t ≡ action_in m u q t
  pub default : (q : ℕ) → q < n → rule q ≡ default_in m u q

-- The sums over all cells of the states below n.
pub record AreSumsTo (m : Collection) (u : Guide) (n shifts reduces : ℕ) (chosen : Bool) : Type 0
  where
    pub shift_reduce : shifts ≡ sum_by (row_shift_reduce m u) (range_with_len 0 n)
    pub reduce_reduce : reduces ≡ sum_by (row_reduce_reduce m u) (range_with_len 0 n)
    pub choice : chosen ≡ list_any (row_choice m u) (range_with_len 0 n)

-- what the cell at the token t counts, where it counts something
abbrev pub conflict_at : ℕ → Cell → List Conflict
conflict_at t c =
    if nat_eq c.shift_reduce 0 && nat_eq c.reduce_reduce 0 then [] else
    record { token = t; shift_reduce = c.shift_reduce; reduce_reduce = c.reduce_reduce } ∷ []

-- the conflicts of state q at the tokens below n
abbrev pub conflicts_to : Collection → Guide → ℕ → ℕ → List Conflict
conflicts_to m u q n = flat_map (λ t. conflict_at t (cell_in m u q t)) (range_with_len 0 n)

-- the conflicts of state q
abbrev pub conflicts_in : Collection → Guide → ℕ → List Conflict
conflicts_in m u q = conflicts_to m u q m.grammar.bare.tokens

-- The lists have the conflicts of the states below n.
abbrev pub AreConflicts : Collection → Guide → ℕ → List (List Conflict) → Type 0
AreConflicts m u n lists = (q : ℕ) → q < n → slice_index_or lists q [] ≡ conflicts_in m u q

-- The tables agree with these gotos and lookaheads: all cells, and the sums over all states and
-- all tokens.
pub record FollowsGuide (v : TablesValue) (u : Guide) : Type 0 where
  pub rows : AreRowsTo v.built u (length v.built.states) (action_at v) (default_at v)
  pub sums : AreSumsTo v.built u (length v.built.states) v.shift_reduce v.reduce_reduce v.choice

-- The tables are right, whichever guide agrees with the automaton.
abbrev pub AreTables : TablesValue → Type 0
AreTables v = (u : Guide) → IsGuide v.built u → FollowsGuide v u

-- The rows of the states below n are their gotos over nonterminals, the first of which has the
-- first column.
abbrev pub AreGotosTo : Collection → ℕ → List (List (Option ℕ)) → Type 0
AreGotosTo m n rows =
    (q x : ℕ) → q < n → m.grammar.bare.tokens ≤ x → x < m.grammar.bare.symbols → entry_of rows q
    (x - m.grammar.bare.tokens) ≡ goto_in m q x

-- the gotos of all states
pub record AreGotos (m : Collection) (packed : PackedRows ℕ) : Type 0 where
  pub rows : length packed.rows ≡ length m.states
  pub width : packed.width + m.grammar.bare.tokens ≡ m.grammar.bare.symbols
  pub gotos : AreGotosTo m (length m.states) packed.rows

-- What holds of tables: a row, a default rule, gotos and conflicts for each state, and what these say.
pub record IsTables (v : TablesValue) (columns : ℕ) (packed : PackedRows ℕ)
    (lists : List (List Conflict)) : Type 0 where
  pub rows : length v.actions ≡ length v.built.states
  pub defaults : length v.defaults ≡ length v.built.states
  pub width : columns ≡ v.built.grammar.bare.tokens
  pub gotos : AreGotos v.built packed
  pub tables : AreTables v
  pub listed : length lists ≡ length v.built.states
  pub conflicts : (u : Guide) → IsGuide v.built u → AreConflicts v.built u (length v.built.states)
      lists
