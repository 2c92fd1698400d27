use Rattle.std.proofs.Common.{◌≡◌, ◌++◌, map, length}
use Rattle.std.specs.List.{flat_map, AllByRecursion}
use Rattle.ysyntax.specs.declared.recogniser.State.TheVariants.{Declarations}
use Rattle.ysyntax.specs.Answers.{views}
use Rattle.ysyntax.specs.TreeBuilder.{GoesOn}
use Rattle.ysyntax.specs.SiteViews.{definition_sites}
use Rattle.ysyntax.specs.Tree.{IsDefinition, definition_yield}
use Rattle.ysyntax.specs.TreeViews.{definition_view}
use Rattle.ysyntax.proofs.SoFar.{SitesSoFar}
use Rattle.ysyntax.proofs.tree_builder.TreeBuilder.definitions.Given as goal

abbrev pub invariant-lines : goal.invariant-lines
invariant-lines l = record {
  whole : views l.fn.self ≡ flat_map definition_yield (map definition_view l.definitions.items) ++
      views l.self;
  shaped : AllByRecursion IsDefinition (map definition_view l.definitions.items);
  sites : SitesSoFar definition_sites l.definitions.items l.fn.self l.self;
  goes_on : GoesOn Declarations l.self;
}

abbrev pub decreases-lines : goal.decreases-lines
decreases-lines l = length l.self
