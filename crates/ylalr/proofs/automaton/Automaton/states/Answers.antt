use Rattle.std.proofs.Common.{subst}
use Rattle.ylalr.specs.Collection.{Collection, HasStates, Guide, IsGuide}
use Rattle.ylalr.proofs.WholeSteps.{has_states, guide_of}
use Rattle.ylalr.proofs.automaton.Automaton.states.Goals as goal

pub returns-clause-states : goal.returns-clause-states
returns-clause-states c =
    let P = c.self.inside.lr0 in
    let fit = c.self.invariant.fit in
    subst HasStates c.self.view_is (has_states P.grammar fit.well_formed
    P.states P.gotos fit.states fit.gotos fit.counted fit.few)

pub returns-clause-guide : goal.returns-clause-guide
returns-clause-guide c =
    let P = c.self.inside.lr0 in
    let fit = c.self.invariant.fit in
    subst (λ (m : Collection). (u : Guide) × IsGuide m u) c.self.view_is
    (guide_of P.grammar fit.well_formed P.states P.gotos fit.states
    (λ q x h l. fit.gotos.gotos q h x l) P.item_rows c.self.inside.looks c.self.invariant.sound
    c.self.invariant.closed)
