use Rattle.std.proofs.Common.{ℕ, sym, subst}
use Rattle.ytables.specs.declared.cell.Action.{Action}
use Rattle.ycode.specs.Policies.{act_at}
use Rattle.ycode.specs.States.{Fits, states_of}
use Rattle.ycode.proofs.PolicySteps.{act_fits}
use Rattle.ycode.proofs.cells.wanted_at.Goals as goal

pub number_for-requires-clause-fits : goal.number_for-requires-clause-fits
number_for-requires-clause-fits c =
    let v = c.args.tables.now in
    let z = c.args.sizes.now in
    let a = c.requires.sizes in
    subst (λ (x : Action). Fits z.states z.rules x) (sym c.act_at-action.ensures)
    (subst (λ (n : ℕ). Fits n z.rules (act_at c.args.policy v c.args.q c.args.t)) (sym a.states)
    (subst (λ (n : ℕ). Fits (states_of v) n (act_at c.args.policy v c.args.q c.args.t)) (sym a.rules)
    (act_fits v z a c.args.q c.requires.state c.args.policy c.args.t c.requires.token)))
