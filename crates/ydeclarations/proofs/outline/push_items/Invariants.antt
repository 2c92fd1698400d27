use Rattle.std.proofs.Common.{◌≡◌, ◌++◌, map, drop}
use Rattle.std.specs.List.{flat_map}
use Rattle.ydeclarations.specs.Elaboration.{body_part_identifier}
use Rattle.ysyntax.specs.TreeViews.{body_part_view, occurrence_view}
use Rattle.ydeclarations.specs.OutlineSites.{symbol_in}
use Rattle.ydeclarations.proofs.outline.push_items.Given as goal

abbrev pub invariant-loop-item : goal.invariant-loop-item
invariant-loop-item l = record {
  names : map occurrence_view l.found.items ++ flat_map body_part_identifier
      (map body_part_view (drop l.item-index l.items)) ≡ map occurrence_view l.fn.found.items ++
      flat_map
      body_part_identifier (map body_part_view l.items);
  all : l.found.items ++ flat_map symbol_in (drop l.item-index l.items)
      ≡ l.fn.found.items ++ flat_map symbol_in l.items;
}
