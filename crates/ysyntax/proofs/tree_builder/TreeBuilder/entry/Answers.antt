use Rattle.ysyntax.specs.Answers.{views}
use Rattle.ysyntax.specs.TreeViews.{digits_view}
use Rattle.ysymbols.specs.Sources.{option_view}
use Rattle.ysyntax.proofs.TreeSteps.{entry_goes}
use Rattle.ysyntax.proofs.tree_builder.TreeBuilder.entry.Goals as goal

pub returns-clause-goes_on : goal.returns-clause-goes_on
returns-clause-goes_on c = entry_goes (option_view digits_view c.digits-digits.result)
    (views c.args.self.now) (views c.digits-digits.new.self) c.digits-digits.ensures.taken
    c.requires
