use Rattle.ymachine.specs.Machine.{Configuration}
use Rattle.ysession.specs.States.{GoesOn}
use Rattle.ysession.proofs.Trials.{Tries}
use Rattle.ysession.proofs.expected.tried.Given as goal

-- so far reductions were made
abbrev pub invariant-loop-reductions : goal.invariant-loop-reductions
invariant-loop-reductions l = (first : Configuration)
    → GoesOn l.tables first l.token l.initial.states.items
    → Tries l.tables first l.token l.reductions l.states.items
