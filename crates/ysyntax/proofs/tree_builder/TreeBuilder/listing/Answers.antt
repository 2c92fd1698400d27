use Rattle.ysyntax.specs.Answers.{views}
use Rattle.ysymbols.specs.Sources.{option_view}
use Rattle.ysyntax.specs.TreeViews.{name_view}
use Rattle.ysyntax.proofs.TreeSteps.{list_goes}
use Rattle.ysyntax.proofs.tree_builder.TreeBuilder.listing.Goals as goal

pub entries-requires : goal.entries-requires
entries-requires c = list_goes (option_view name_view c.tag-tag.result) (views c.args.self.now)
    (views c.tag-tag.new.self) c.tag-tag.ensures.taken c.requires
