use Rattle.ysyntax.specs.Answers.{views}
use Rattle.ysyntax.proofs.TreeSteps.{union_there}
use Rattle.ysyntax.proofs.tree_builder.TreeBuilder.union_text.Goals as goal

pub returns-in_err-text : goal.returns-in_err-text
returns-in_err-text c =
    absurd (union_there (views c.args.self.now) c.requires c.in_err-text.ensures.taken.0)
