use Rattle.std.proofs.Common.{codes, length}
use Rattle.ytables.proofs.LineSteps.{list_cut, list_sent}
use Rattle.ytables.proofs.report.put_report.Goals as goal

pub returns-in_err-put_list : goal.returns-in_err-put_list
returns-in_err-put_list g c = λ u h.
    list_cut g.W.Write.contents _ _ _ (codes "Rules\n") _ _ c.from_residual.ensures
    (rw c.grammar-grammar.ensures at
    (c.in_err-put_list.ensures tt (length c.args.tables.now.built.grammar.bare.rules)
    (rw (c.rules-rules.ensures, c.grammar-grammar.ensures))))

pub returns-in_err-put_list-2 : goal.returns-in_err-put_list-2
returns-in_err-put_list-2 g c = λ u h.
    list_sent g.W.Write.contents _ _ _ _ (codes "Rules\n") _ _
    (rw c.grammar-grammar.ensures at
    (c.in_ok-put_list.ensures tt (length c.args.tables.now.built.grammar.bare.rules)
    (rw (c.rules-rules.ensures, c.grammar-grammar.ensures))))
    (list_cut g.W.Write.contents _ _ _ (codes "Unreachable\n") _ _
    c.from_residual-in_err-put_list-2.ensures
    (rw c.grammar-grammar.ensures at
    (c.in_err-put_list-2.ensures tt (length c.args.tables.now.built.grammar.bare.rules)
    (rw (c.rules-rules.ensures, c.grammar-grammar.ensures)))))

pub returns : goal.returns
returns g c = λ u h.
    list_sent g.W.Write.contents _ _ _ _ (codes "Rules\n") _ _
    (rw c.grammar-grammar.ensures at
    (c.in_ok-put_list.ensures tt (length c.args.tables.now.built.grammar.bare.rules)
    (rw (c.rules-rules.ensures, c.grammar-grammar.ensures))))
    (list_sent g.W.Write.contents _ _ _ _ (codes "Unreachable\n") _ _
    (rw c.grammar-grammar.ensures at
    (c.in_ok-put_list-2.ensures tt (length c.args.tables.now.built.grammar.bare.rules)
    (rw (c.rules-rules.ensures, c.grammar-grammar.ensures))))
    (c.put_tokens_part.ensures u h))
