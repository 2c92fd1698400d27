use Rattle.yprovenance.proofs.BeforeSteps.{goto_within}
use Rattle.yprovenance.proofs.before.target.Goals as goal

pub returns-then-item-body-clause-within : goal.returns-then-item-body-clause-within
returns-then-item-body-clause-within c = goto_within c.args.automaton.now c.args.state _ c.goto.result
    c.states-states.ensures.states c.requires.state c.goto.ensures.exact
