use Rattle.std.proofs.lemmas.List.{take_rest}
use Rattle.ytables.proofs.LineSteps.{first_cut, second_cut, three}
use Rattle.ytables.proofs.report.put_back.Goals as goal

pub returns-in_err-put_names : goal.returns-in_err-put_names
returns-in_err-put_names g c = λ u h.
    first_cut g.W.Write.contents _ _ _ _ _ c.from_residual.ensures
    (rw (
      take_rest c.body.result.now c.args.item.dot,
      c.body.ensures,
      c.rule.ensures.production,
      c.grammar-grammar.ensures,
    ) at c.in_err-put_names.ensures)

pub returns-in_err-put_on : goal.returns-in_err-put_on
returns-in_err-put_on g c = λ u h.
    second_cut g.W.Write.contents _ _ _ _ _ _ _ c.from_residual-in_err-put_on.ensures
    (rw (
      take_rest c.body.result.now c.args.item.dot,
      c.body.ensures,
      c.rule.ensures.production,
      c.grammar-grammar.ensures,
    ) at c.in_ok-put_names.ensures) (c.in_err-put_on.ensures u h)

pub returns : goal.returns
returns g c = λ u h.
    three g.W.Write.contents _ _ _ _ _ _ _ _
    (rw (
      take_rest c.body.result.now c.args.item.dot,
      c.body.ensures,
      c.rule.ensures.production,
      c.grammar-grammar.ensures,
    ) at c.in_ok-put_names.ensures) (c.in_ok-put_on.ensures u h)
    c.put.ensures
