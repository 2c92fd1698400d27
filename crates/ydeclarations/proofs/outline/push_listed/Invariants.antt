use Rattle.std.proofs.Common.{◌≡◌, ◌++◌, map, drop}
use Rattle.ydeclarations.specs.Elaboration.{listing_of}
use Rattle.ysyntax.specs.TreeViews.{entry_view}
use Rattle.ydeclarations.specs.Outline.{listed_view}
use Rattle.ydeclarations.specs.OutlineSites.{listed_entry}
use Rattle.ydeclarations.proofs.outline.push_listed.Given as goal

abbrev pub invariant-loop-entry : goal.invariant-loop-entry
invariant-loop-entry l = record {
  names : map listed_view l.found.items ++ map (listing_of l.gives)
      (map entry_view (drop l.entry-index l.entries)) ≡ map listed_view l.fn.found.items ++ map
      (listing_of l.gives) (map entry_view l.entries);
  all : map listed_entry l.found.items ++ drop l.entry-index l.entries
      ≡ map listed_entry l.fn.found.items ++ l.entries;
}
