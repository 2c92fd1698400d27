use Rattle.ytables.proofs.LineSteps.{first_cut, second_cut, three}
use Rattle.ytables.proofs.report.RulesLines.put_line.Goals as goal

pub returns-in_err-put_rule_head : goal.returns-in_err-put_rule_head
returns-in_err-put_rule_head g c = λ u.
    first_cut g.W.Write.contents _ _ _ _ _ c.from_residual.ensures c.in_err-put_rule_head.ensures

pub returns-in_err-put_names : goal.returns-in_err-put_names
returns-in_err-put_names g c = λ u.
    second_cut g.W.Write.contents _ _ _ _ _ _ _ c.from_residual-in_err-put_names.ensures
    c.in_ok-put_rule_head.ensures
    (rw (c.body.ensures, c.rule.ensures.production) at c.in_err-put_names.ensures)

pub returns : goal.returns
returns g c = λ u.
    three g.W.Write.contents _ _ _ _ _ _ _ _ c.in_ok-put_rule_head.ensures
    (rw (c.body.ensures, c.rule.ensures.production) at c.in_ok-put_names.ensures) c.put.ensures
