-- What elaboration gives: the grammar that a tree means, or its first mistake.
use Rattle.std.specs.Prelude.{ℕ, ◌≡◌, ◌<◌, ◌≤◌, List, length, map, Option, Result, Ok, Err}
use Rattle.std.specs.List.{AllByRecursion}
use Rattle.ygrammar.specs.declared.elaboration.Named.{Named}
use Rattle.ydeclarations.specs.declared.mistake.Mistake.TheVariants.{TokenLeft, Undefined}
use Rattle.ydeclarations.specs.declared.mistake.Mistake.TheVariants.{TwicePrecedence}
use Rattle.ydeclarations.specs.declared.mistake.Mistake.TheVariants.{Unproductive}
use Rattle.ydeclarations.specs.declared.mistake.Refused.{Refused}
use Rattle.ydeclarations.specs.declared.mistake.Refused.TheVariants as refused
use Rattle.ydeclarations.specs.Elaboration.{bare_of, lefts, rules, symbols, token_precedences}
use Rattle.ydeclarations.specs.Elaboration.{tokens}
use Rattle.ysymbols.specs.Forms.{Productive}
use Rattle.ysymbols.specs.Grammar.{ContextFree, GrammarValue, RuleValue}
use Rattle.ysymbols.specs.Marking.{AreIn}
use Rattle.ygrammar.specs.Meaning.{IsMeaning}
use Rattle.ydeclarations.specs.Mistakes.{HasNone, Holds, IsFirst, order}
use Rattle.ygrammar.specs.Numbered.{rule_numbers}
use Rattle.ygrammar.specs.OwnTable.{IsOwnTable}
use Rattle.ygrammar.specs.Texts.{kept_text}
use Rattle.ydeclarations.specs.Places.{IsBarren}
use Rattle.ysyntax.specs.Sites.{left_side}
use Rattle.ysyntax.specs.Tree.{Tree}
use Rattle.ysymbols.specs.WellFormed.{WellFormed}

-- the first mistake of the tree, or no memory
abbrev pub IsFirstRefused : Tree → Refused → Type 0
IsFirstRefused t (refused.Mistake what at) = IsFirst t order what
IsFirstRefused t refused.Memory = Unit {0}

-- The symbols and the tables of the tokens, where none of the first four mistakes holds.
pub record AreNamed (t : Tree) (n : Named) : Type 0 where
  pub names : n.names ≡ symbols t
  pub tokens_first : n.tokens ≡ length (tokens t)
  pub given : n.given.items ≡ token_precedences t
  pub own : IsOwnTable t n.own
  pub no_token_left : Holds t TokenLeft → ⊥
  pub all_defined : Holds t Undefined → ⊥
  pub once : Holds t TwicePrecedence → ⊥

abbrev pub GivesNamed : Tree → Result Named Refused → Type 0
GivesNamed t (Ok n) = AreNamed t n
GivesNamed t (Err e) = IsFirstRefused t e

-- the meaning of the tree, or its first mistake, or no memory
abbrev pub Elaborates : Tree → Result GrammarValue Refused → Type 0
Elaborates t (Ok g) = IsMeaning t g
Elaborates t (Err e) = IsFirstRefused t e

-- every nonterminal of the grammar derives a list of tokens, or one that does not is the mistake
abbrev pub Fruitful : {A : Type 0} → ContextFree → Result A Refused → Type 0
Fruitful g (Ok v) = (s : ℕ) → g.tokens ≤ s → s < g.symbols → Productive g s
Fruitful g (Err (refused.Mistake what at)) = (what ≡ Unproductive)
    × ((s : ℕ) × (g.tokens ≤ s) × (s < g.symbols) × (Productive g s → ⊥))
Fruitful g (Err refused.Memory) = Unit {0}

-- where a nonterminal derives no list of tokens, so does a left side of the file
abbrev pub ShowsBarren : Tree → Type 0
ShowsBarren t = Holds t Unproductive →
    AllByRecursion (λ n. IsBarren t (left_side n) → ⊥) (lefts t) → ⊥

-- the rules of the tree by number
abbrev pub AreNumbered : Tree → List RuleValue → Type 0
AreNumbered t vs = vs ≡ map (rule_numbers (symbols t) (token_precedences t)) (rules t)

-- No mistake stands in the tree, and each nonterminal derives a list of tokens.
pub record IsFaultless (t : Tree) : Type 0 where
  pub none : HasNone t order
  pub productive : (s : ℕ) → length (tokens t) ≤ s → s < length (symbols t) →
      Productive (bare_of t) s

-- the tree has no mistake, or this is its first one, or no memory
abbrev pub Decides : {A : Type 0} → Tree → Result A Refused → Type 0
Decides t (Ok v) = IsFaultless t
Decides t (Err e) = IsFirstRefused t e

-- The rules are numbered and have their texts, and no mistake stands in the tree.
pub record IsReady (t : Tree) (n : Named) (vs : List RuleValue) (ts : List (Option (List ℕ))) :
    Type 0 where
  pub named : AreNamed t n
  pub numbered : vs ≡ map (rule_numbers (symbols t) (token_precedences t)) (rules t)
  pub texts : ts ≡ map kept_text (rules t)
  pub sound : HasNone t order
  pub in_range : AreIn (length (symbols t)) vs
  pub well_formed : WellFormed (bare_of t)
