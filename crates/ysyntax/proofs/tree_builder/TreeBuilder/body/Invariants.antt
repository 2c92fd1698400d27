use Rattle.std.proofs.Common.{◌≡◌, ◌++◌, map, length}
use Rattle.ysyntax.specs.declared.recogniser.State.TheVariants.{Body}
use Rattle.ysyntax.specs.Answers.{views}
use Rattle.ysyntax.specs.TreeBuilder.{GoesOn}
use Rattle.ysyntax.specs.SiteViews.{body_part_sites}
use Rattle.ysyntax.specs.Tree.{body_part_yield}
use Rattle.ysyntax.specs.TreeTexts.{BodyPartStands}
use Rattle.ysyntax.specs.TreeViews.{body_part_view}
use Rattle.ysyntax.proofs.SoFar.{SitesSoFar, StandSoFar}
use Rattle.ysyntax.proofs.tree_builder.TreeBuilder.body.Given as goal

abbrev pub invariant-items : goal.invariant-items
invariant-items l = record {
  whole : views l.fn.self ≡ map body_part_yield (map body_part_view l.body.items) ++ views l.self;
  sites : SitesSoFar body_part_sites l.body.items l.fn.self l.self;
  goes_on : GoesOn Body l.self;
  stands : StandSoFar BodyPartStands l.body.items l.fn.self l.self;
}

abbrev pub decreases-items : goal.decreases-items
decreases-items l = length l.self
