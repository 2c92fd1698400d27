use Rattle.std.proofs.Common.{◌++◌, List, ℕ, Option, map, drop}
use Rattle.ydeclarations.specs.Elaboration.{literal_value}
use Rattle.ysymbols.specs.Names.{Name}
use Rattle.ydeclarations.specs.Owned.{AllSmall, OwnSoFar}
use Rattle.ysyntax.specs.Tree.{Identifier}
use Rattle.ysyntax.specs.TreeViews.{occurrence_view}
use Rattle.ydeclarations.proofs.given.fill_literals.Given as goal

abbrev pub invariant-loop-occurrence : goal.invariant-loop-occurrence
invariant-loop-occurrence l = record {
  small : AllSmall l.fn.table.items → AllSmall l.table.items;
  told : (more : List Identifier) (own : Name → Option ℕ) →
      OwnSoFar l.tokens l.fn.table.items
      (literal_value (map occurrence_view l.occurrences ++ more)) own →
      OwnSoFar l.tokens l.table.items
      (literal_value (map occurrence_view (drop l.occurrence-index l.occurrences) ++ more)) own;
}
