use Rattle.ysyntax.specs.Answers.{views}
use Rattle.ysyntax.proofs.TreeSteps.{mark_word}
use Rattle.ysyntax.proofs.tree_builder.TreeBuilder.declaration.Goals as goal

pub returns-in_default-clause-read : goal.returns-in_default-clause-read
returns-in_default-clause-read c =
    let n = c.in_default in
    mark_word c.args.word (views c.args.self.now) c.requires n.not-Start n.not-Union n.not-Types
    n.not-Token n.not-Left n.not-Right n.not-Nonassoc
