use Rattle.std.proofs.Common.{ℕ, ◌++◌, List, codes, true, false, length, subst}
use Rattle.ylalr.specs.Collection.{state_of}
use Rattle.ylink.specs.Sends.{Sends}
use Rattle.ylink.proofs.Ranges.{by_index}
use Rattle.ytables.specs.Text.{count_line}
use Rattle.ytables.specs.Report.{item_line}
use Rattle.ytables.proofs.LineSteps.{list_cut, list_sent}
use Rattle.ytables.proofs.report.StatesLines.put_line.Goals as goal

pub returns-in_err-put_list : goal.returns-in_err-put_list
returns-in_err-put_list g c = λ u.
    let v = c.args.self.now.0.now in
    let items = state_of v.built c.args.q in
    list_cut g.W.Write.contents _ _ _ (count_line (codes "State ") c.args.q) _ _ c.from_residual.ensures
    (subst (λ (l : List ℕ). Sends g.W.Write.contents c.args.link.now c.put_list.new.link
    false (count_line (codes "State ") c.args.q ++ l))
    (by_index (item_line v u.0 c.args.q) (record { rule = 0; dot = 0 }) items)
    (c.in_err-put_list.ensures u (length items)
    (rw (c.items-items.ensures, c.automaton.ensures.value))))

pub returns : goal.returns
returns g c = λ u.
    let v = c.args.self.now.0.now in
    let items = state_of v.built c.args.q in
    list_sent g.W.Write.contents _ _ _ _ (count_line (codes "State ") c.args.q) _ _
    (subst (λ (l : List ℕ). Sends g.W.Write.contents c.args.link.now c.put_list.new.link
    true (count_line (codes "State ") c.args.q ++ l))
    (by_index (item_line v u.0 c.args.q) (record { rule = 0; dot = 0 }) items)
    (c.in_ok-put_list.ensures u (length items)
    (rw (c.items-items.ensures, c.automaton.ensures.value))))
    (c.put_cells.ensures u.0 u.1)
