use Rattle.ydeclarations.specs.Elaboration.{starts_of}
use Rattle.ysyntax.specs.TreeViews.{definition_view}
use Rattle.ydeclarations.specs.Outline.{start_view}
use Rattle.ydeclarations.specs.OutlineSites.{starts_in}
use Rattle.ydeclarations.proofs.Gathering.{Gathers}
use Rattle.ydeclarations.proofs.outline.all_starts.Given as goal

abbrev pub invariant-loop-definition : goal.invariant-loop-definition
invariant-loop-definition l = Gathers start_view starts_of definition_view starts_in
    l.found.items l.definitions l.definition-index
