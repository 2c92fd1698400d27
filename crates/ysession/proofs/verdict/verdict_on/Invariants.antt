use Rattle.ytokens.specs.Tokens.{symbols_of}
use Rattle.ysession.specs.Judge.{Reaches}
use Rattle.ysession.proofs.verdict.verdict_on.Given as goal

abbrev pub invariant-loop-steps : goal.invariant-loop-steps
invariant-loop-steps l =
    Reaches l.tables (symbols_of l.tokens) l.states.items l.taken l.steps
