-- A file means one grammar.
use Rattle.std.proofs.Common.{ℕ, ◌≡◌, List, Result, Ok, subst}
use Rattle.ysymbols.specs.Grammar.{GrammarValue}
use Rattle.ylexemes.specs.Lexemes.{Lexeme}
use Rattle.ysyntax.specs.Lexer.{Refusal}
use Rattle.ysyntax.specs.Tree.{Tree, yield}
use Rattle.ysyntax.proofs.OneTree.{one_tree}
use Rattle.ysyntax.proofs.Outcomes.{one_outcome, spells_outcome}
use Rattle.ygrammar.specs.GrammarOf.{IsGrammarOf, HasTree}
use Rattle.ygrammar.specs.Meaning.{IsMeaning}
use Rattle.ygrammar.proofs.OneMeaning.{one_meaning}

-- what is read, where something is
same_read : (ks ls : List Lexeme) → ◌≡◌ {A = Result (List Lexeme) Refusal} (Ok ks) (Ok ls) → ks ≡ ls
same_read ks ls e = cc

-- a file has one tree
same_tree : (source : List ℕ) (t u : Tree) → HasTree source t → HasTree source u → u ≡ t
same_tree source t u h k = one_tree u t k.shaped h.shaped (same_read (yield u) (yield t)
    (one_outcome source (Ok (yield u)) (Ok (yield t)) (spells_outcome source (yield u) k.spelled)
    (spells_outcome source (yield t) h.spelled)))

-- a file means one grammar
pub one_grammar : (source : List ℕ) (g h : GrammarValue) → IsGrammarOf source g →
    IsGrammarOf source h → g ≡ h
one_grammar source g h x y = one_meaning x.0 g h x.2
    (subst (λ t. IsMeaning t h) (same_tree source x.0 y.0 x.1 y.1) y.2)
