use Rattle.std.proofs.Common.{◌≡◌, ◌++◌, map, length}
use Rattle.std.specs.List.{flat_map}
use Rattle.ysyntax.specs.declared.recogniser.State.TheVariants.{Numbered}
use Rattle.ysyntax.specs.Answers.{views}
use Rattle.ysyntax.specs.TreeBuilder.{GoesOn}
use Rattle.ysyntax.specs.SiteViews.{entry_sites}
use Rattle.ysyntax.specs.Tree.{entry_yield}
use Rattle.ysyntax.specs.TreeViews.{entry_view}
use Rattle.ysyntax.proofs.SoFar.{SitesSoFar}
use Rattle.ysyntax.proofs.tree_builder.TreeBuilder.entries.Given as goal

abbrev pub invariant-entries : goal.invariant-entries
invariant-entries l = record {
  whole : views l.fn.self ≡ flat_map entry_yield (map entry_view l.entries.items) ++ views l.self;
  sites : SitesSoFar entry_sites l.entries.items l.fn.self l.self;
  goes_on : GoesOn Numbered l.self;
}

abbrev pub decreases-entries : goal.decreases-entries
decreases-entries l = length l.self
