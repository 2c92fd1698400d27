use Rattle.std.proofs.Common.{codes, length, arith}
use Rattle.ytables.proofs.LineSteps.{first_cut, two, list_cut, list_sent}
use Rattle.ytables.proofs.report.put_tokens_part.Goals as goal

pub returns-in_err-put_list : goal.returns-in_err-put_list
returns-in_err-put_list g c = λ u h.
    list_cut g.W.Write.contents _ _ _ (codes "Tokens\n") _ _ c.from_residual.ensures
    (rw c.grammar-grammar.ensures at
    (c.in_err-put_list.ensures tt c.args.tables.now.built.grammar.bare.tokens
    (rw (c.token_count-tokens.ensures, c.grammar-grammar.ensures))))

pub returns-in_err-put_lines : goal.returns-in_err-put_lines
returns-in_err-put_lines g c = λ u h.
    list_sent g.W.Write.contents _ _ _ _ (codes "Tokens\n") _ _
    (rw c.grammar-grammar.ensures at
    (c.in_ok-put_list.ensures tt c.args.tables.now.built.grammar.bare.tokens
    (rw (c.token_count-tokens.ensures, c.grammar-grammar.ensures))))
    (first_cut g.W.Write.contents _ _ _ _ _ c.from_residual-in_err-put_lines.ensures
    (c.in_err-put_lines.ensures (u, h) (length c.args.tables.now.built.states)
    (rw (c.states-states.ensures.count, c.automaton.ensures.value) (omega arith))))

pub returns : goal.returns
returns g c = λ u h.
    list_sent g.W.Write.contents _ _ _ _ (codes "Tokens\n") _ _
    (rw c.grammar-grammar.ensures at
    (c.in_ok-put_list.ensures tt c.args.tables.now.built.grammar.bare.tokens
    (rw (c.token_count-tokens.ensures, c.grammar-grammar.ensures))))
    (two g.W.Write.contents _ _ _ _ _ _
    (c.in_ok-put_lines.ensures (u, h) (length c.args.tables.now.built.states)
    (rw (c.states-states.ensures.count, c.automaton.ensures.value) (omega arith)))
    c.put_counts.ensures)
