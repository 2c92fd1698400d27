use Rattle.std.proofs.Common.{Ok, Err}
use Rattle.ysyntax.proofs.Answering.{gives_answers, gives_spells, gives_tree}
use Rattle.ysyntax.proofs.Outcomes.{spells_outcome}
use Rattle.ysyntax.proofs.lexer.read_syntax.Goals as goal

pub returns-clause-found : goal.returns-clause-found
returns-clause-found c = gives_spells c.args.bytes.now c.read_lexemes.result
    c.read_lexemes.ensures.outcome

pub returns-clause-only : goal.returns-clause-only
returns-clause-only c = λ ls short h. gives_answers c.args.bytes.now c.read_lexemes.result
    (Ok ls) c.read_lexemes.ensures.outcome (spells_outcome c.args.bytes.now ls h)

pub returns-clause-fault : goal.returns-clause-fault
returns-clause-fault c = λ r short h. gives_answers c.args.bytes.now c.read_lexemes.result
    (Err r) c.read_lexemes.ensures.outcome h

pub returns-clause-tree : goal.returns-clause-tree
returns-clause-tree c = gives_tree c.args.bytes.now c.read_lexemes.result
    c.read_lexemes.ensures.outcome
