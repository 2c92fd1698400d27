use Rattle.ysyntax.specs.Answers.{views}
use Rattle.ysyntax.proofs.TreeSteps.{types_tagged}
use Rattle.ysyntax.proofs.tree_builder.TreeBuilder.types.Goals as goal

pub returns-in_default : goal.returns-in_default
returns-in_default c =
    absurd (types_tagged (views c.args.self.now) c.requires c.in_default.ensures.taken.0)
