use Rattle.ymachine.specs.Machine.{symbols}
use Rattle.ysession.specs.Session.{history_of, tables_of}
use Rattle.ysession.proofs.StackStates.{AreStatesTo}
use Rattle.ysession.proofs.states.stack_states.Given as goal

-- the states so far
abbrev pub invariant-loop-index : goal.invariant-loop-index
invariant-loop-index l =
    AreStatesTo (tables_of l.session) (symbols (history_of l.session).now.stack) l.states.items l.index
