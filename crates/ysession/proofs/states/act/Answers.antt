use Rattle.std.proofs.Common.{ℕ, List, ◌∙◌, ap, subst, sym}
use Rattle.ymachine.specs.Tables.{cell_at}
use Rattle.ysession.specs.States.{IsStep, top_of}
use Rattle.ysession.proofs.Acting.{acts}
use Rattle.ysession.proofs.states.act.Goals as goal

pub returns : goal.returns
returns c = λ at g.
    let t = c.args.tables.now in
    let token = c.args.token in
    let cell = c.cell-action.ensures
    ∙ ap (λ (q : ℕ). cell_at t q token) (c.top_state.ensures ∙ ap top_of c.deref.ensures.value) in
    subst (λ (s : List ℕ). IsStep t at token c.cell-action.result s) (sym c.in_ok-leave.ensures)
    (acts t c.basis.ensures at token c.args.states.now.items g c.cell-action.result (sym cell))
