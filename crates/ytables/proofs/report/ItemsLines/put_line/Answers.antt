use Rattle.ytables.proofs.LineSteps.{first_cut, two}
use Rattle.ytables.proofs.RowSteps.{same_at}
use Rattle.ytables.proofs.report.ItemsLines.put_line.Goals as goal

pub put_back-requires-clause-here : goal.put_back-requires-clause-here
put_back-requires-clause-here g c = record {
  inside = c.requires.1;
  item = λ d. rw (c.items.ensures, c.automaton-automaton.ensures.value)
      (same_at _ c.args.k d (record { rule = 0; dot = 0 }) c.requires.1);
}

pub returns-in_err-put_front : goal.returns-in_err-put_front
returns-in_err-put_front g c = λ u.
    first_cut g.W.Write.contents _ _ _ _ _ c.from_residual.ensures
    (rw (c.items.ensures, c.grammar.ensures, c.automaton-automaton.ensures.value) at
    c.in_err-put_front.ensures)

pub returns : goal.returns
returns g c = λ u.
    two g.W.Write.contents _ _ _ _ _ _
    (rw (c.items.ensures, c.grammar.ensures, c.automaton-automaton.ensures.value) at
    c.in_ok-put_front.ensures)
    (rw (c.items.ensures, c.automaton-automaton.ensures.value) at (c.put_back.ensures u.0 u.1))
