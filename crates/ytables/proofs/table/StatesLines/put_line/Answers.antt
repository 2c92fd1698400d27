use Rattle.ytables.proofs.LineSteps.{first_cut, two, gotos_sent}
use Rattle.ytables.proofs.table.StatesLines.put_line.Goals as goal

pub returns-in_err-put_rule_or_actions : goal.returns-in_err-put_rule_or_actions
returns-in_err-put_rule_or_actions g c = λ u.
    first_cut g.W.Write.contents _ _ _ _ _ c.from_residual.ensures
    c.in_err-put_rule_or_actions.ensures

pub returns : goal.returns
returns g c = λ u.
    two g.W.Write.contents _ _ _ _ _ _ c.in_ok-put_rule_or_actions.ensures
    (gotos_sent g.W.Write.contents _ _ _ _ c.grammar-grammar.result.now _ _ _
    c.grammar-grammar.ensures c.token_count.ensures c.symbols.ensures.value
    c.symbols.ensures.well_formed.within (c.put_lines.ensures tt))
