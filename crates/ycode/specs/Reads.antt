-- What the arrays of a C parser say, and that nothing is read outside of them.
use Rattle.std.specs.Prelude.{ℕ, ◌≡◌, ◌≢◌, ◌+◌, ◌*◌, ◌/◌, ◌<◌, ◌≤◌, ◌^◌, true, false, Some, None, length}
use Rattle.std.specs.Prelude.{slice_get, slice_index}
use Rattle.ysymbols.specs.Grammar.{left_of, body_of, most_rules, most_symbols}
use Rattle.ybitsets.specs.Limits.{most_states}
use Rattle.ylalr.specs.Collection.{goto_in}
use Rattle.ytables.specs.declared.cell.Action.TheVariants.{Reduce, Error}
use Rattle.ytables.specs.Cell.{is_filled}
use Rattle.ytables.specs.Tables.{TablesValue, action_at, default_at}
use Rattle.ycode.specs.declared.code.Code.{Code}
use Rattle.ycode.specs.declared.policy.Policy.{Policy}
use Rattle.ycode.specs.declared.policy.Policy.TheVariants.{Consistent}
use Rattle.ycode.specs.Cells.{states_of, tokens_of, symbols_of, rules_of, refused_at, Fits}
use Rattle.ycode.specs.Policies.{act_at, always_at, filled_by, rule_for}
use Rattle.ycode.specs.Combs.{place_of, AreAtMost}
use Rattle.ycode.specs.Reading.{read_action, read_default, read_refusal, read_goto, read_token}

-- What is read without default reductions is each action of the tables.
pub record IsExact (v : TablesValue) (c : Code) : Type 0 where
  pub action : (q t : ℕ) → q < states_of v → t < tokens_of v →
      read_action c q t ≡ action_at v q t
  pub default : (q : ℕ) → q < states_of v → read_default c q ≡ default_at v q
  -- what is no token is an error where a token is read
  pub none : (q : ℕ) → q < states_of v → default_at v q ≡ None →
      read_action c q (tokens_of v) ≡ Error

-- What is read is what the tables say under a policy of default reductions.
pub record Reads (p : Policy) (v : TablesValue) (c : Code) : Type 0 where
  pub states : c.states ≡ states_of v
  pub rules : c.rules ≡ rules_of v
  pub tokens : c.tokens ≡ tokens_of v
  pub action : (q t : ℕ) → q < states_of v → t < tokens_of v →
      read_action c q t ≡ act_at p v q t
  -- what is no token has the number of tokens, and is an error but for a default reduction
  pub none : (q : ℕ) → q < states_of v →
      read_action c q (tokens_of v) ≡ filled_by false (rule_for p v q) Error
  pub default : (q : ℕ) → q < states_of v → read_default c q ≡ always_at p v q
  pub refusal : (q t : ℕ) → q < states_of v → t < tokens_of v →
      read_refusal c q t ≡ refused_at p v q t
  -- a default reduction takes the place of no shift, no acceptance and no other reduction
  pub kept : (q t : ℕ) → q < states_of v → t < tokens_of v → is_filled (action_at v q t) ≡ true →
      read_action c q t ≡ action_at v q t
  -- what is reduced before a token is read is reduced at each token
  pub always : (q t r : ℕ) → q < states_of v → t < tokens_of v → read_default c q ≡ Some r →
      read_action c q t ≡ Reduce r
  pub exact : p ≡ Consistent → IsExact v c
  pub goto : (q x n : ℕ) → q < states_of v → tokens_of v + x < symbols_of v →
      goto_in v.built q (tokens_of v + x) ≡ Some n → read_goto c q x ≡ n
  pub symbol : (q x n : ℕ) → q < states_of v → x < symbols_of v → goto_in v.built q x ≡ Some n →
      slice_index c.symbols n ≡ x
  pub body : (r : ℕ) → r < rules_of v → slice_index c.lengths r ≡
      length (body_of v.built.grammar.bare r)
  pub left : (r : ℕ) → r < rules_of v → tokens_of v + slice_index c.lefts r ≡
      left_of v.built.grammar.bare r
  pub token : (s n : ℕ) → s < tokens_of v → slice_get v.built.grammar.numbers s ≡ Some n →
      read_token c n ≡ s
  pub other : (n : ℕ) →
      ((s : ℕ) → s < tokens_of v → slice_get v.built.grammar.numbers s ≢ Some n) →
      read_token c n ≡ tokens_of v

-- Each index that is formed for a state, a token, a nonterminal and a rule lies in its array.
pub record IsInside (v : TablesValue) (c : Code) : Type 0 where
  pub states : (length c.actions.rows ≡ states_of v) × (length c.usual ≡ states_of v) ×
      (length c.sets ≡ states_of v)
  pub symbols : length c.symbols ≡ states_of v
  pub rules : (length c.lengths ≡ rules_of v) × (length c.lefts ≡ rules_of v)
  pub targets : (tokens_of v + length c.targets ≡ symbols_of v) ×
      (tokens_of v + length c.gotos.rows ≡ symbols_of v)
  pub cells : (length c.actions.checks ≤ length c.actions.values) ×
      (length c.gotos.checks ≤ length c.gotos.values)
  -- for each token, and for what is none
  pub action : (q t : ℕ) → q < states_of v → t ≤ tokens_of v →
      place_of c.actions q t < length c.actions.checks
  pub bits : (q t : ℕ) → q < states_of v → t ≤ tokens_of v →
      slice_index c.sets q * c.span + t / 8 < length c.bits
  pub goto : (q x : ℕ) → q < states_of v → tokens_of v + x < symbols_of v →
      place_of c.gotos x q < length c.gotos.checks
  -- what is read is a state, a rule, a nonterminal or a token
  pub next : (q t : ℕ) → q < states_of v → t < tokens_of v →
      Fits (states_of v) (rules_of v) (read_action c q t)
  pub to : (q x n : ℕ) → q < states_of v → tokens_of v + x < symbols_of v →
      goto_in v.built q (tokens_of v + x) ≡ Some n → read_goto c q x < states_of v
  pub usual : (q : ℕ) → q < states_of v → slice_index c.usual q < rules_of v
  pub left : (r : ℕ) → r < rules_of v → tokens_of v + slice_index c.lefts r < symbols_of v
  pub token : (n : ℕ) → read_token c n ≤ tokens_of v

-- The arrays are short: an index into one of them, or into a set of tokens, is a number of 32 bits.
pub record AreShort (v : TablesValue) (c : Code) : Type 0 where
  pub states : states_of v ≤ most_states
  pub rules : rules_of v ≤ most_rules
  pub symbols : symbols_of v ≤ most_symbols
  pub checks : (length c.actions.checks < 2 ^ 28) × (length c.gotos.checks < 2 ^ 28)
  pub values : (length c.actions.values < 2 ^ 28) × (length c.gotos.values < 2 ^ 28)
  pub span : c.span ≤ 1024
  pub bits : length c.bits < 2 ^ 28
  pub numbers : length c.numbers ≤ 2 ^ 32

-- All numbers are small, those of 32 bits with a sign hold each, and the arrays are short.
pub record AreSmall (v : TablesValue) (c : Code) : Type 0 where
  pub short : AreShort v c
  pub rows : AreAtMost (2 ^ 28) c.actions.rows × AreAtMost (2 ^ 28) c.gotos.rows
  pub checks : AreAtMost (tokens_of v + 1) c.actions.checks ×
      AreAtMost (states_of v) c.gotos.checks
  pub values : AreAtMost (states_of v + rules_of v) c.actions.values ×
      AreAtMost (states_of v) c.gotos.values
  pub usual : AreAtMost (rules_of v) c.usual
  pub sets : AreAtMost (states_of v) c.sets
  pub bits : AreAtMost 255 c.bits
  pub targets : AreAtMost (states_of v) c.targets
  pub symbols : AreAtMost (symbols_of v) c.symbols
  pub rules : AreAtMost 255 c.lengths × AreAtMost (symbols_of v) c.lefts
  pub numbers : AreAtMost (tokens_of v) c.numbers

-- These are the arrays of the parser by these tables under a policy of default reductions.
pub record IsCode (p : Policy) (v : TablesValue) (c : Code) : Type 0 where
  pub reads : Reads p v c
  pub inside : IsInside v c
  pub small : AreSmall v c
