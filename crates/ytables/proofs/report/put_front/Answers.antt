use Rattle.ytables.proofs.LineSteps.{first_cut, second_cut, three}
use Rattle.ytables.proofs.report.put_front.Goals as goal

pub returns-in_err-put_pieces : goal.returns-in_err-put_pieces
returns-in_err-put_pieces g c =
    first_cut g.W.Write.contents _ _ _ _ _ c.from_residual.ensures
    (rw (c.name.ensures, c.left.ensures, c.rule-rule.ensures.production) at
    c.in_err-put_pieces.ensures)

pub returns-in_err-put_names : goal.returns-in_err-put_names
returns-in_err-put_names g c =
    second_cut g.W.Write.contents _ _ _ _ _ _ _ c.from_residual-in_err-put_names.ensures
    (rw (c.name.ensures, c.left.ensures, c.rule-rule.ensures.production) at
    c.in_ok-put_pieces.ensures)
    (rw (c.body.ensures, c.rule-rule.ensures.production) at c.in_err-put_names.ensures)

pub returns : goal.returns
returns g c =
    three g.W.Write.contents _ _ _ _ _ _ _ _
    (rw (c.name.ensures, c.left.ensures, c.rule-rule.ensures.production) at
    c.in_ok-put_pieces.ensures)
    (rw (c.body.ensures, c.rule-rule.ensures.production) at c.in_ok-put_names.ensures) c.put.ensures
