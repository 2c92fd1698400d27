use Rattle.std.proofs.Common.{ℕ, List, ◌≡◌, Some, None, Bool, Option, refl, sym, ap, ◌∙◌}
use Rattle.std.proofs.Common.{if◌then◌else◌, subst}
use Rattle.ylalr.specs.declared.items.Item.{Item}
use Rattle.ylalr.specs.Collection.{Collection, Guide, state_of, goto_in}
use Rattle.ytables.specs.declared.cell.Action.{Action}
use Rattle.ytables.specs.declared.cell.Tally.{Tally}
use Rattle.ytables.specs.Cell.{cell_of}
use Rattle.ytables.specs.Tables.{class_at, class_in, rules_by, ready_in, shift_of}
use Rattle.ytables.specs.Tally.{IsTally}
use Rattle.ytables.specs.Tallies.{IsTallyAt, against}
use Rattle.ytables.proofs.RowSteps.{rules_ready}
use Rattle.ytables.proofs.TallySteps.{settled_some, settled_none}
use Rattle.ytables.proofs.row.settled.Goals as goal

-- the rules of a cell
abbrev rules_at : Collection → Guide → ℕ → ℕ → List ℕ
rules_at m u q t = rules_by (λ (i : Item). u.looks q i t) (ready_in m.grammar.bare (state_of m q))

-- the tally of a cell is that of its rules
tallied : (m : Collection) (u : Guide) (q t : ℕ) (y : Tally) (b shifts : Bool) → b ≡ shifts →
    IsTallyAt m u q b t y →
    IsTally (class_at m.grammar (against m.grammar shifts t)) (rules_at m u q t) y
tallied m u q t y b shifts e h =
    let k = state_of m q in
    subst (λ rs. IsTally (class_at m.grammar (against m.grammar shifts t)) rs y)
    (rules_ready m.grammar.bare (λ (i : Item). u.looks q i t) k k refl)
    (subst (λ b. IsTallyAt m u q b t y) e h)

-- the shift of a cell, by whether the token can be shifted
abbrev shift_if : Collection → ℕ → ℕ → Bool → Option Action
shift_if m q t b = if b then Some (shift_of (goto_in m q) t) else None

pub returns-then-shifts-clause-cell : goal.returns-then-shifts-clause-cell
returns-then-shifts-clause-cell c = λ u h.
    let m = c.args.automaton.now in
    let class = class_in m.grammar c.args.t in
    let rules = rules_at m u c.args.q c.args.t in
    c.settle.ensures ∙ settled_some class rules c.args.tally.now c.shift_at.result
    (tallied m u c.args.q c.args.t c.args.tally.now _ _ c.if-shifts.true (c.requires.tally u h))
    ∙ ap (λ o. cell_of class o rules) (ap Some c.shift_at.ensures
    ∙ ap (shift_if m c.args.q c.args.t) (sym c.if-shifts.true ∙ c.requires.shifts))

pub returns-clause-cell : goal.returns-clause-cell
returns-clause-cell c = λ u h.
    let m = c.args.automaton.now in
    let class = class_in m.grammar c.args.t in
    let rules = rules_at m u c.args.q c.args.t in
    c.settle-2.ensures ∙ settled_none class rules c.args.tally.now
    (tallied m u c.args.q c.args.t c.args.tally.now _ _ c.if-shifts.false (c.requires.tally u h))
    ∙ ap (λ o. cell_of class o rules)
    (ap (shift_if m c.args.q c.args.t) (sym c.if-shifts.false ∙ c.requires.shifts))
