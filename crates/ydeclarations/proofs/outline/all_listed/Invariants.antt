use Rattle.std.proofs.Common.{◌≡◌, ◌≤◌, ◌++◌, map, drop}
use Rattle.ydeclarations.specs.Elaboration.{listings_from}
use Rattle.ysyntax.specs.TreeViews.{definition_view}
use Rattle.ydeclarations.specs.Outline.{listed_view}
use Rattle.ydeclarations.specs.OutlineSites.{entries_in, listed_entry}
use Rattle.std.specs.List.{flat_map}
use Rattle.ydeclarations.proofs.outline.all_listed.Given as goal

abbrev pub invariant-loop-definition : goal.invariant-loop-definition
invariant-loop-definition l = record {
  so_far : map listed_view l.found.items ++ listings_from l.level
      (map definition_view (drop l.definition-index l.definitions)) ≡ listings_from 0
      (map definition_view l.definitions);
  low : l.level ≤ l.definition-index;
  all : map listed_entry l.found.items
      ++ flat_map entries_in (drop l.definition-index l.definitions)
      ≡ flat_map entries_in l.definitions;
}
