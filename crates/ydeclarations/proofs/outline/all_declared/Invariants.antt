use Rattle.std.proofs.Common.{◌≡◌, ◌++◌, map, drop}
use Rattle.std.specs.List.{flat_map}
use Rattle.ydeclarations.specs.Elaboration.{identifiers_of}
use Rattle.ysyntax.specs.TreeViews.{definition_view, occurrence_view}
use Rattle.ydeclarations.proofs.outline.all_declared.Given as goal

abbrev pub invariant-loop-definition : goal.invariant-loop-definition
invariant-loop-definition l = map occurrence_view l.found.items ++ flat_map identifiers_of
    (map definition_view (drop l.definition-index l.definitions)) ≡ flat_map identifiers_of
    (map definition_view l.definitions)
