use Rattle.ydeclarations.specs.Elaboration.{type_names}
use Rattle.ysyntax.specs.TreeViews.{definition_view, name_view}
use Rattle.ydeclarations.specs.OutlineSites.{typed_in}
use Rattle.ydeclarations.proofs.Gathering.{Gathers}
use Rattle.ydeclarations.proofs.outline.all_typed.Given as goal

abbrev pub invariant-loop-definition : goal.invariant-loop-definition
invariant-loop-definition l = Gathers name_view type_names definition_view typed_in
    l.found.items l.definitions l.definition-index
