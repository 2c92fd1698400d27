use Rattle.ysyntax.proofs.tree_builder.TreeBuilder.rule_text.Goals as goal

pub returns-clause-stands : goal.returns-clause-stands
returns-clause-stands c = λ source h.
    let b = c.in_ok-body.ensures.stands source h in
    let p = c.precedence.ensures.stands source b.1 in
    (record { body = b.0; last = p.0 }, c.semicolons-semicolons.ensures.stands source p.1)
