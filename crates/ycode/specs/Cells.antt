-- What the arrays have of the cells of actions.
use Rattle.std.specs.Prelude.{ℕ, ◌≡◌, ◌+◌, ◌*◌, ◌/◌, ◌<◌, ◌≤◌, ◌++◌, Bool, true, ◌&&◌, List, [], ◌∷◌}
use Rattle.std.specs.Prelude.{length, map, Option, Some, None, is_some, if◌then◌else◌, nat_eq}
use Rattle.std.specs.Prelude.{replicate, slice_index, slice_index_or, unwrap_or}
use Rattle.std.specs.List.{fold, range_with_len}
use Rattle.ylalr.specs.Collection.{goto_in}
use Rattle.ytables.specs.declared.cell.Action.{Action}
use Rattle.ytables.specs.declared.cell.Action.TheVariants.{Shift, Reduce, Accept, Error}
use Rattle.ytables.specs.Cell.{is_reduce}
use Rattle.ytables.specs.Tables.{TablesValue, action_at}
use Rattle.yprovenance.specs.Candidates.{shift_in}
use Rattle.ysymbols.specs.Grammar.{most_symbols, most_rules}
use Rattle.ybitsets.specs.Limits.{most_states}
use Rattle.ycode.specs.declared.entry.Entry.{Entry}
use Rattle.ycode.specs.declared.policy.Policy.{Policy}
use Rattle.ycode.specs.declared.sizes.Sizes.{Sizes}
use Rattle.ycode.specs.Bits.{SetsValue, HasSet, AreListed, bit_of, bytes_for, with_set, number_of}
use Rattle.ycode.specs.Entries.{entry_at, entries_for, EntriesAtMost}
use Rattle.ycode.specs.Policies.{rule_for, act_at, always_at}
pub use Rattle.ycode.specs.States.{states_of, tokens_of, rules_of, symbols_of, Fits, is_error}
pub use Rattle.ycode.specs.States.{is_refused, rule_in, reductions_in}
use Rattle.ycode.specs.Usual.{most_usual}

-- the sizes are those of the tables, within their limits, and no action or goto is beyond them
pub record AreSizes (v : TablesValue) (s : Sizes) : Type 0 where
  pub states : s.states ≡ states_of v
  pub tokens : s.tokens ≡ tokens_of v
  pub symbols : s.symbols ≡ symbols_of v
  pub rules : s.rules ≡ rules_of v
  pub few_states : s.states ≤ most_states
  pub few_symbols : s.symbols ≤ most_symbols
  pub few_rules : s.rules ≤ most_rules
  pub some_states : 0 < s.states
  pub some_tokens : 0 < s.tokens
  pub some_nonterminals : s.tokens < s.symbols
  pub some_rules : 0 < s.rules
  pub actions : (q t : ℕ) → q < states_of v → t < tokens_of v →
      Fits (states_of v) (rules_of v) (action_at v q t)
  pub gotos : (q x n : ℕ) → q < states_of v → x < symbols_of v → goto_in v.built q x ≡ Some n →
      n < states_of v

-- the number of an action: a shift has its state, then comes the acceptance, then reductions by
-- their rules, and then an error that is told apart; the usual reduction and others have none
abbrev pub number_for : ℕ → ℕ → ℕ → Bool → Action → Option ℕ
number_for states rules usual refused (Shift n) = Some n
number_for states rules usual refused (Reduce r) =
    if nat_eq usual r then None else Some (states + r)
number_for states rules usual refused Accept = Some states
number_for states rules usual refused Error = if refused then Some (states + rules) else None

-- the cell is an error although its token could be shifted, and stays one beside a default reduction
abbrev pub refused_at : Policy → TablesValue → ℕ → ℕ → Bool
refused_at p v q t = is_error (act_at p v q t) && is_some (shift_in v.built q t)

-- the number that the cell of state q at the token t has beside this usual reduction
abbrev pub wanted_at : Policy → TablesValue → ℕ → ℕ → ℕ → Option ℕ
wanted_at p v usual q t = number_for (states_of v) (rules_of v) usual (refused_at p v q t)
    (act_at p v q t)

-- the usual rule of state q: its default rule, where it has one, and else the rule that most of its
-- cells reduce by
abbrev pub usual_rule : Policy → TablesValue → ℕ → ℕ
usual_rule p v q = unwrap_or (rule_for p v q) (most_usual (reductions_in v q))

-- rule r is the usual one of state q, and its default rule, where it has one
pub record IsUsual (p : Policy) (v : TablesValue) (q r : ℕ) : Type 0 where
  pub rule : r < rules_of v
  pub default : (s : ℕ) → rule_for p v q ≡ Some s → r ≡ s
  pub is : r ≡ usual_rule p v q

-- set n has the tokens at which state q reduces by rule r, and is set 0 where it always does
pub record IsSetOf (p : Policy) (v : TablesValue) (q r : ℕ) (s : SetsValue) (n : ℕ) : Type 0 where
  pub number : n < s.count
  pub members : (t : ℕ) → t < tokens_of v →
      bit_of s.bytes (n * s.span) t ≡ is_reduce r (act_at p v q t)
  pub zero : nat_eq n 0 ≡ is_some (always_at p v q)
  -- what is no token is in it where the state reduces by default
  pub none : bit_of s.bytes (n * s.span) (tokens_of v) ≡ is_some (rule_for p v q)

-- how many bytes a set of tokens has, and of what is none
abbrev pub span_of : TablesValue → ℕ
span_of v = (tokens_of v + 1 + 7) / 8

-- for each token whether state q makes its usual reduction at it, and then for what is none
abbrev pub members_in : Policy → TablesValue → ℕ → List Bool
members_in p v q = map (λ t. is_reduce (usual_rule p v q) (act_at p v q t))
    (range_with_len 0 (tokens_of v)) ++ is_some (rule_for p v q) ∷ []

-- the bytes of that set
abbrev pub set_in : Policy → TablesValue → ℕ → List ℕ
set_in p v q = bytes_for (span_of v) (members_in p v q)

-- the sets with that of state q; one that always reduces by its rule has set 0
abbrev pub with_set_in : Policy → TablesValue → SetsValue → ℕ → SetsValue
with_set_in p v s q = if is_some (always_at p v q) then s else with_set s (set_in p v q)

-- set 0 alone, which has all tokens, and what is no token too
abbrev pub first_set : TablesValue → SetsValue
first_set v = record {
  span = span_of v;
  count = 1;
  bytes = bytes_for (span_of v) (replicate (tokens_of v + 1) true);
  others = [];
}

-- the sets of the states below n
abbrev pub sets_to : Policy → TablesValue → ℕ → SetsValue
sets_to p v n = fold (with_set_in p v) (first_set v) (range_with_len 0 n)

-- the number of the set of state q among these
abbrev pub set_number : Policy → TablesValue → SetsValue → ℕ → ℕ
set_number p v s q = if is_some (always_at p v q) then 0 else number_of s (set_in p v q)

-- the lists have the cells of the states below n
pub record AreCells (p : Policy) (v : TablesValue) (n : ℕ) (usual sets : List ℕ) (s : SetsValue)
    (rows : List (List Entry)) : Type 0 where
  pub counts : (length usual ≡ n) × (length sets ≡ n) × (length rows ≡ n)
  pub rules : (q : ℕ) → q < n → IsUsual p v q (slice_index usual q)
  pub members : (q : ℕ) → q < n → IsSetOf p v q (slice_index usual q) s (slice_index sets q)
  pub entries : (q t : ℕ) → q < n → t < tokens_of v →
      entry_at (slice_index_or rows q []) t ≡ wanted_at p v (slice_index usual q) q t
  pub none : (q : ℕ) → q < n → entry_at (slice_index_or rows q []) (tokens_of v) ≡ None
  pub most : (q : ℕ) → q < n → EntriesAtMost (states_of v + rules_of v) (slice_index_or rows q [])
  pub numbers : (q : ℕ) → q < n → slice_index sets q ≡ set_number p v (sets_to p v (q + 1)) q
  pub lists : (q : ℕ) → q < n → slice_index_or rows q [] ≡
      entries_for (wanted_at p v (slice_index usual q) q) (tokens_of v)

-- Sets of these tables: set 0 has all tokens, and what is no token too. There are no more than one
-- more than so many.
pub record AreSets (p : Policy) (v : TablesValue) (n : ℕ) (s : SetsValue) : Type 0 where
  pub span : s.span ≡ (tokens_of v + 1 + 7) / 8
  pub all : HasSet s 0 (replicate (tokens_of v + 1) true)
  pub few : s.count ≤ n + 1
  pub listed : AreListed s
  pub are : s ≡ sets_to p v n
