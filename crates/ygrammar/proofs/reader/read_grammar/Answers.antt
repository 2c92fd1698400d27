use Rattle.ygrammar.proofs.ReaderSteps.{fault_found}
use Rattle.ygrammar.proofs.reader.read_grammar.Goals as goal

pub returns-in-Err-clause-fault : goal.returns-in-Err-clause-fault
returns-in-Err-clause-fault c =
    fault_found c.args.source.now c.in-Err.placed c.in-Err.ensures.fault c.in-Err.ensures.line

pub returns-in-Err-clause-exact : goal.returns-in-Err-clause-exact
returns-in-Err-clause-exact c =
    fault_found c.args.source.now c.in-Err.placed c.in-Err.ensures.fault c.in-Err.ensures.line
