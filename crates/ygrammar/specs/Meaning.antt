-- The grammar that a file means.
use Rattle.std.specs.Prelude.{ℕ, ◌≡◌, ◌<◌, ◌↔◌, Bool, true, false, List, length, map}
use Rattle.std.specs.Prelude.{slice_index_or}
use Rattle.ydeclarations.specs.Elaboration.{HavePrecedences, bare_of, own_numbers, rules, symbols}
use Rattle.ydeclarations.specs.Elaboration.{token_precedences}
use Rattle.ysymbols.specs.Forms.{IsReachable}
use Rattle.ysymbols.specs.Grammar.{GrammarValue}
use Rattle.ydeclarations.specs.Mistakes.{HasNone, order}
use Rattle.ygrammar.specs.Numbers.{AreNumbers}
use Rattle.ysyntax.specs.Tree.{Tree}

-- which symbols are marked as those that can be reached
pub record MarksReachable (t : Tree) (marks : List Bool) : Type 0 where
  pub each : length marks ≡ length (symbols t)
  pub exact : (s : ℕ) → s < length (symbols t) →
      (slice_index_or marks s false ≡ true) ↔ IsReachable (bare_of t) s

-- The value is what the tree means, and the tree has no mistake.
pub record IsMeaning (t : Tree) (g : GrammarValue) : Type 0 where
  pub sound : HasNone t order
  pub bare : g.bare ≡ bare_of t
  pub names : g.names ≡ symbols t
  pub numbers : AreNumbers (own_numbers t) g.numbers
  pub precedences : g.token_precedences ≡ token_precedences t
  pub of_rules : HavePrecedences (symbols t) (token_precedences t) (rules t) g.rule_precedences
  pub texts : g.texts ≡ map (λ r. r.text) (rules t)
  pub reachable : MarksReachable t g.reachable
