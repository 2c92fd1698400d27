-- What every grammar that is handed out keeps: the promise of the reader to the layers above.
use Rattle.std.specs.Prelude.{ℕ, ◌≡◌, ◌≢◌, ◌<◌, ◌≤◌, List, [], ◌∷◌, Some, codes, length, slice_get}
use Rattle.std.specs.Prelude.{slice_index_or}
use Rattle.std.specs.List.{All}
use Rattle.ysymbols.specs.Grammar.{ContextFree, GrammarValue, IsToken, left_of, body_of, start_of}
use Rattle.ysymbols.specs.Grammar.{end_token, error_token, longest_body, most_rules, most_symbols}
use Rattle.ysymbols.specs.Forms.{Productive}

-- The bare grammar has `$accept : S $end` and further rules, and every nonterminal derives a list
-- of tokens.
pub record WellFormed (g : ContextFree) : Type 0 where
  -- the tokens come first, `$end` and `error` among them: there are at least two
  pub ends : IsToken g end_token
  pub recovers : IsToken g error_token
  pub within : g.tokens ≤ g.symbols
  -- left sides are nonterminals, bodies have symbols
  pub some : 0 < length g.rules
  pub left : (r : ℕ) → r < length g.rules → left_of g r < g.symbols
  pub nonterminal : (r : ℕ) → r < length g.rules → g.tokens ≤ left_of g r
  pub body : (r : ℕ) → r < length g.rules → All (λ s. s < g.symbols) (body_of g r)
  -- rule 0 is `$accept : S $end`, where S is another nonterminal
  pub first : body_of g 0 ≡ start_of g ∷ end_token ∷ []
  pub start_nonterminal : g.tokens ≤ start_of g
  pub start_other : start_of g ≢ left_of g 0
  -- `$accept` has no other rule and stands in no body, and `$end` in no other one
  pub accept_once : (r : ℕ) → 0 < r → r < length g.rules → left_of g r ≢ left_of g 0
  pub alone : (r : ℕ) → r < length g.rules → All (λ s. s ≢ left_of g 0) (body_of g r)
  pub ended : (r : ℕ) → 0 < r → r < length g.rules → All (λ s. s ≢ end_token) (body_of g r)
  -- every nonterminal derives a list of tokens
  pub productive : (s : ℕ) → g.tokens ≤ s → s < g.symbols → Productive g s
  -- the limits
  pub small : g.symbols ≤ most_symbols
  pub few : length g.rules ≤ most_rules
  pub short : (r : ℕ) → r < length g.rules → length (body_of g r) ≤ longest_body

-- no element stands at two places
abbrev pub StandOnce : {A : Type 0} → List A → Type 0
StandOnce {A = A} xs = (i j : ℕ) (x : A) →
    slice_get xs i ≡ Some x → slice_get xs j ≡ Some x → i ≡ j

-- The whole value: a well-formed bare grammar, and lists beside it that have each number.
pub record IsWhole (v : GrammarValue) : Type 0 where
  pub bare : WellFormed v.bare
  pub names : length v.names ≡ v.bare.symbols
  pub numbers : length v.numbers ≡ v.bare.tokens
  pub token_precedences : length v.token_precedences ≡ v.bare.tokens
  pub rule_precedences : length v.rule_precedences ≡ length v.bare.rules
  pub texts : length v.texts ≡ length v.bare.rules
  pub reachable : length v.reachable ≡ v.bare.symbols
  -- `$end` and `error` are the first two, no two symbols have one name, and no two tokens one
  -- number
  pub end : slice_index_or v.names end_token [] ≡ codes "$end"
  pub error : slice_index_or v.names error_token [] ≡ codes "error"
  pub names_once : StandOnce v.names
  pub numbers_once : StandOnce v.numbers
