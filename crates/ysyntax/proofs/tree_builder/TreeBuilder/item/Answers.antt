use Rattle.ysyntax.proofs.tree_builder.TreeBuilder.item.Goals as goal

pub returns-in-Some-occurrence-clause-stands : goal.returns-in-Some-occurrence-clause-stands
returns-in-Some-occurrence-clause-stands c = λ source h.
    (tt, c.in-Some-occurrence.ensures.stands source (c.in-None.ensures.stands source h).1)

pub returns-in-None-occurrence-clause-stands : goal.returns-in-None-occurrence-clause-stands
returns-in-None-occurrence-clause-stands c = λ source h.
    (tt, c.in-None-occurrence.ensures.stands source (c.in-None.ensures.stands source h).1)
