-- A grammar file with a syntax as it is read: its lexemes, its tree, and the map of both.
use Rattle.std.specs.Prelude.{ℕ, ◌≡◌, ◌<◌, ◌^◌, List, [], Result, Ok, Err, Some, slice_get}
use Rattle.std.specs.List.{AllByRecursion}
use Rattle.ysymbols.specs.Grammar.{GrammarValue}
use Rattle.ysyntax.specs.declared.fault.GrammarFault.{GrammarFault}
use Rattle.ysyntax.specs.declared.fault.GrammarFault.TheVariants as faults
use Rattle.ysyntax.specs.declared.fault.PlacedFault.{PlacedFault}
use Rattle.ysyntax.specs.Answers.{StandIn, views}
use Rattle.ysyntax.specs.Sites.{AreSites, Site, StandFrom}
use Rattle.ysyntax.specs.SiteViews.{marks_in, tree_sites}
use Rattle.ysyntax.specs.Tree.{Tree, yield}
use Rattle.ysyntax.specs.TreeTexts.{RuleTextStands}
use Rattle.ysyntax.specs.TreeViews.{tree_view}
use Rattle.ysyntax.specs.Map.{AreMarksOf}
use Rattle.ydeclarations.specs.Places.{AllAt, IsBarren}
use Rattle.ygrammar.specs.declared.parsed.Parsed.{Parsed}
use Rattle.ygrammar.specs.declared.reader.Mapped.{Mapped}
use Rattle.ygrammar.specs.GrammarOf.{HasTree}
use Rattle.ygrammar.specs.Numbered.{inner_after}

-- The tree is the one of the file, and its lexemes are those of the file, each at its place.
pub record IsParsed (source : List ℕ) (p : Parsed) : Type 0 where
  pub has : HasTree source (tree_view p.tree)
  pub one : (u : Tree) → HasTree source u → u ≡ tree_view p.tree
  pub sites : AreSites source (tree_view p.tree) (tree_sites p.tree)
  pub stands : AllByRecursion (RuleTextStands source) p.tree.rule_texts.items
  pub counted : inner_after 1 (tree_view p.tree).rule_texts < 2 ^ 64
  pub lexemes : views p.lexemes.items ≡ yield (tree_view p.tree)
  pub ends : StandIn source p.lexemes.items
  pub places : StandFrom source [] (marks_in p.lexemes.items)

-- the marks are those of the file by its tree
abbrev pub IsMapped : List ℕ → Mapped → Type 0
IsMapped source m = (t : Tree) × HasTree source t × AreMarksOf source t m.marks.items

-- the grammar or the fault, without the marks
abbrev pub unmapped : Result Mapped PlacedFault → Result GrammarValue PlacedFault
unmapped (Ok m) = m.grammar
unmapped (Err e) = Err e

-- where the fault is that a left side derives no list of tokens, the places of all such left sides
-- in their order, and the fault stands at the first; else none
abbrev pub AreBarren : Tree → List Site → GrammarFault → ℕ → List ℕ → Type 0
AreBarren t ss (faults.Unproductive line) at ps =
    AllAt (λ r. IsBarren t r) ss ps × (slice_get ps 0 ≡ Some at)
AreBarren t ss _ at ps = ps ≡ []

-- these places for an answer, none for a grammar
abbrev pub AreBarrenOf : Tree → List Site → Result GrammarValue PlacedFault → List ℕ → Type 0
AreBarrenOf t ss (Ok g) ps = ps ≡ []
AreBarrenOf t ss (Err e) ps = AreBarren t ss e.fault e.at ps

-- the places that are lent are these of the file by its tree
abbrev pub LendsBarren : List ℕ → Mapped → Type 0
LendsBarren source m = (t : Tree) × HasTree source t × ((ss : List Site) × AreSites source t ss
    × AreBarrenOf t ss m.grammar m.barren.items)
