use Rattle.std.proofs.Common.{List, ℕ, ◌∙◌, sym, subst}
use Rattle.std.proofs.lemmas.Result.{IfOk-weaker}
use Rattle.ymachine.specs.Machine.{symbols}
use Rattle.ymachine.specs.MachineOver.{machine_over}
use Rattle.ysession.specs.States.{AreStates}
use Rattle.ysession.proofs.Trials.{says_over, says_never}
use Rattle.ysession.proofs.expected.outlook_over.Goals as goal

pub returns-then-not-can_be_next-clause-says : goal.returns-then-not-can_be_next-clause-says
returns-then-not-can_be_next-clause-says c = λ at r a.
    says_never (machine_over c.args.tables.now) at c.args.token c.args.most
    (sym c.can_be_next.ensures ∙ c.if-not-can_be_next.true) r

pub returns-clause-says : goal.returns-clause-says
returns-clause-says c =
    let t = c.args.tables.now in
    let tops : List ℕ = c.in_ok-tops.tops.items in
    IfOk-weaker c.tried.result _ _ (λ trial shows. λ at r a.
    says_over t at c.args.token c.args.most tops trial.outlook
    (sym c.can_be_next.ensures ∙ c.if-not-can_be_next.false) r
    (subst (λ (s : List ℕ). AreStates t (symbols at.stack) s) (sym c.in_ok-tops.ensures.items) a)
    shows)
    c.tried.ensures.shows
