use Rattle.std.proofs.Common.{subst, sym}
use Rattle.ylalr.specs.States.{StateLists, AreStates}
use Rattle.ylalr.proofs.StateSteps.{states_first}
use Rattle.ylalr.proofs.collection.first_state.Goals as goal

pub returns-clause-states : goal.returns-clause-states
returns-clause-states c =
    let g = c.args.grammar.now.bare in
    let s = c.new-states.result in
    let w = c.in_ok-items.items in
    subst (λ (t : StateLists). AreStates g t) (sym c.in_ok-push.ensures)
    (states_first g c.symbols-well_formed.ensures.well_formed s w c.new-states.ensures.no_kernel
    c.new-states.ensures.none c.in_ok-items.ensures.closure c.in_ok-items.ensures.ascending
    c.in_ok-items.ensures.range)
