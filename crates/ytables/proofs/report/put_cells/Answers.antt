use Rattle.ytables.proofs.LineSteps.{first_cut, second_cut, three, gotos_sent}
use Rattle.ytables.proofs.report.put_cells.Goals as goal

pub returns-in_err-put_rule_or_actions : goal.returns-in_err-put_rule_or_actions
returns-in_err-put_rule_or_actions g c = λ u h.
    first_cut g.W.Write.contents _ _ _ _ _ c.from_residual.ensures
    c.in_err-put_rule_or_actions.ensures

pub returns-in_err-put_lines : goal.returns-in_err-put_lines
returns-in_err-put_lines g c = λ u h.
    second_cut g.W.Write.contents _ _ _ _ _ _ _ c.from_residual-in_err-put_lines.ensures
    c.in_ok-put_rule_or_actions.ensures
    (gotos_sent g.W.Write.contents _ _ _ _ c.grammar-grammar.result.now _ _ _
    c.grammar-grammar.ensures c.token_count.ensures c.symbols.ensures.value
    c.symbols.ensures.well_formed.within (c.in_err-put_lines.ensures tt))

pub returns : goal.returns
returns g c = λ u h.
    three g.W.Write.contents _ _ _ _ _ _ _ _ c.in_ok-put_rule_or_actions.ensures
    (gotos_sent g.W.Write.contents _ _ _ _ c.grammar-grammar.result.now _ _ _
    c.grammar-grammar.ensures c.token_count.ensures c.symbols.ensures.value
    c.symbols.ensures.well_formed.within (c.in_ok-put_lines.ensures tt))
    (c.put_conflicts.ensures u h)
