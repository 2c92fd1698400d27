use Rattle.std.proofs.Common.{ℕ, ◌≡◌, ◌<◌, Bool, false, None, List, length, get_or, sym, ap, ◌∙◌}
use Rattle.std.proofs.Common.{subst, if◌then◌else◌}
use Rattle.std.specs.List.{filter, list_any}
use Rattle.ysymbols.specs.Grammar.{GrammarValue}
use Rattle.ylalr.specs.declared.items.Item.{Item}
use Rattle.ylalr.specs.Collection.{state_of}
use Rattle.ytables.specs.declared.cell.Action.{Action}
use Rattle.ytables.specs.Cell.{common, is_filled}
use Rattle.ytables.specs.Rows.{IsRowTo}
use Rattle.ytables.specs.Tables.{has_before, conflicts_to}
use Rattle.ytables.proofs.RowSteps.{whole_row}
use Rattle.ytables.proofs.row.row_of.Goals as goal

pub returns-clause-row : goal.returns-clause-row
returns-clause-row c = λ u h.
    let m = c.args.automaton.now in
    let before = c.in_ok-before.before.items in
    let d = c.in_ok-cells.cells in
    let marks : (t : ℕ) → t < m.grammar.bare.tokens → get_or before t false ≡ has_before
    m.grammar.bare (state_of m c.args.q) t = λ t l.
    c.in_ok-before.ensures.marks t (subst (λ n. t < n) (sym c.requires.tokens) l) ∙ ap
    (λ (v : GrammarValue). has_before v.bare c.items-items.result.now t)
    c.grammar-grammar.ensures
    ∙ ap (λ (k : List Item). has_before m.grammar.bare k t) c.items-items.ensures in
    let cells : IsRowTo m u c.args.q (length before) d.actions.items d.shift_reduce d.reduce_reduce
    d.choice =
    subst (λ (l : List Bool). IsRowTo m u c.args.q (length l) d.actions.items d.shift_reduce
    d.reduce_reduce d.choice) c.deref.ensures.value (c.in_ok-cells.ensures.cells u h) in
    whole_row m u c.args.q before d.actions.items c.default_of-default.result d.shift_reduce
    d.reduce_reduce d.choice (c.in_ok-before.ensures.len ∙ c.requires.tokens) marks cells
    (c.default_of-default.ensures ∙ ap (λ (l : List Bool). if list_any (λ b. b) l then None else
    common (filter is_filled c.deref-3.result.now)) c.deref-2.ensures.value
    ∙ ap (λ (l : List Action). if list_any (λ b. b) before then None else common
    (filter is_filled l)) c.deref-3.ensures.value)

pub returns-clause-conflicts : goal.returns-clause-conflicts
returns-clause-conflicts c = λ u h.
    let m = c.args.automaton.now in
    c.in_ok-cells.ensures.conflicts u h ∙ ap (λ (l : List Bool). conflicts_to m u c.args.q
    (length l)) c.deref.ensures.value ∙ ap (conflicts_to m u c.args.q)
    (c.in_ok-before.ensures.len ∙ c.requires.tokens)
