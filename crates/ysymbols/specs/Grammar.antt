-- A grammar as contracts see it (POSIX yacc, "Grammar Rules"; Aho, Sethi, Ullman, section 4.2).
use Rattle.std.specs.Prelude.{ℕ, ◌<◌, Bool, List, [], slice_index_or, Option}
use Rattle.ysymbols.specs.declared.precedence.Precedence.{Precedence}

-- A rule: a left side and a body.
pub record Production : Type 0 where
  pub left : ℕ
  pub body : List ℕ

-- The bare grammar: symbols are numbered, the tokens first.
pub record ContextFree : Type 0 where
  pub tokens : ℕ
  pub symbols : ℕ
  pub rules : List Production

-- A rule with its precedence, where it has one.
pub record RuleValue : Type 0 where
  pub production : Production
  pub precedence : Option Precedence

-- The whole value of a grammar: the bare grammar, and lists by number beside it.
pub record GrammarValue : Type 0 where
  pub bare : ContextFree
  -- the printed names of the symbols
  pub names : List (List ℕ)
  -- the numbers of the tokens
  pub numbers : List ℕ
  -- the precedences of the tokens and of the rules, where they have one
  pub token_precedences : List (Option Precedence)
  pub rule_precedences : List (Option Precedence)
  -- the kept text of each rule's action, where it has one
  pub texts : List (Option (List ℕ))
  -- which symbols can be reached from the first rule
  pub reachable : List Bool

-- the most symbols of a grammar; this and the next four are limits of this project's profile
abbrev pub most_symbols : ℕ
most_symbols = 4096

-- the most rules of a grammar
abbrev pub most_rules : ℕ
most_rules = 8192

-- the most symbols in the body of a rule
abbrev pub longest_body : ℕ
longest_body = 255

-- the greatest number of a token
abbrev pub greatest_number : ℕ
greatest_number = 32767

-- numbers of tokens are below this
abbrev pub number_bound : ℕ
number_bound = 32768

-- the most bytes of a grammar file
abbrev pub longest_file : ℕ
longest_file = 1048576

abbrev pub blank : Production
blank = record { left = 0; body = [] }

abbrev pub production_of : RuleValue → Production
production_of r = r.production

abbrev pub precedence_of : RuleValue → Option Precedence
precedence_of r = r.precedence

abbrev pub rule_of : ContextFree → ℕ → Production
rule_of g r = slice_index_or g.rules r blank

-- the left side of rule r
abbrev pub left_of : ContextFree → ℕ → ℕ
left_of g r = (rule_of g r).left

-- the body of rule r
abbrev pub body_of : ContextFree → ℕ → List ℕ
body_of g r = (rule_of g r).body

-- the tokens come first
abbrev pub IsToken : ContextFree → ℕ → Type 0
IsToken g s = s < g.tokens

-- the number of the end token, `$end`
abbrev pub end_token : ℕ
end_token = 0

-- the number of the token `error`, which recovery shifts (POSIX yacc, "Error Handling")
abbrev pub error_token : ℕ
error_token = 1

-- the start symbol: the first symbol of the body of rule 0, `$accept : S $end`
abbrev pub start_of : ContextFree → ℕ
start_of g = slice_index_or (body_of g 0) 0 0
