use Rattle.std.proofs.Common.{◌≤◌, length, subst, sym, arith}
use Rattle.std.proofs.lemmas.Grind.{common_steps}
use Rattle.ybitsets.specs.Limits.{most_states}
use Rattle.ylalr.specs.States.{StateLists, AreStates}
use Rattle.ylalr.proofs.StateSteps.{states_push, push_length, overflows}
use Rattle.ylalr.proofs.WholeSteps.{too_many}
use Rattle.ylalr.proofs.collection.join.Goals as goal

pub returns-then-n-ge-MOST_STATES-clause-fault : goal.returns-then-n-ge-MOST_STATES-clause-fault
returns-then-n-ge-MOST_STATES-clause-fault c = λ e.
    let g = c.args.grammar.now.bare in
    let s = c.args.finder.now.states in
    let w = c.in_ok-items.items in
    let shut = c.in_ok-items.ensures.closure in
    let l : most_states ≤ length s.closures = grind (arith, common_steps) in
    too_many g (overflows g s c.args.kernel.now w c.requires.fit.states.are c.requires.kernel
    c.requires.fresh shut c.in_ok-items.ensures.ascending c.in_ok-items.ensures.range l)

pub returns-clause-fit : goal.returns-clause-fit
returns-clause-fit c =
    let g = c.args.grammar.now.bare in
    let s = c.args.finder.now.states in
    let w = c.in_ok-items.items in
    let shut = c.in_ok-items.ensures.closure in
    let are = subst (λ (t : StateLists). AreStates g t) (sym c.in_ok-push.ensures)
    (states_push g s c.args.kernel.now w c.requires.fit.states.are c.requires.kernel
    c.requires.fresh shut c.in_ok-items.ensures.ascending c.in_ok-items.ensures.range) in
    let longer = push_length s.closures w in
    let few = subst (λ (t : StateLists). length t.closures ≤ most_states) (sym c.in_ok-push.ensures)
    (grind (arith, common_steps)) in
    record {
      first_rules = c.requires.fit.first_rules;
      wanted = c.in_ok-items.ensures.wanted;
      states = record { are = are; few = few };
    }
