use Rattle.ysyntax.specs.Answers.{views}
use Rattle.ysyntax.proofs.TreeSteps.{start_there}
use Rattle.ysyntax.proofs.tree_builder.TreeBuilder.start.Goals as goal

pub returns-in_err-symbol-clause-sites : goal.returns-in_err-symbol-clause-sites
returns-in_err-symbol-clause-sites c =
    absurd (start_there (views c.args.self.now) c.requires c.in_err-symbol.ensures.taken.0)

pub returns-in_err-symbol-clause-read : goal.returns-in_err-symbol-clause-read
returns-in_err-symbol-clause-read c =
    absurd (start_there (views c.args.self.now) c.requires c.in_err-symbol.ensures.taken.0)
