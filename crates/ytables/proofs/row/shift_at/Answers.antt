use Rattle.std.proofs.Common.{ℕ, ◌≡◌, nat_eq, true, false, Option, sym, ap, ◌∙◌, inl, inr, ◌⊎◌}
use Rattle.std.proofs.Common.{if◌then◌else◌}
use Rattle.std.proofs.lemmas.Bool.Decides.{eqb_tells}
use Rattle.ylalr.specs.Collection.{goto_in}
use Rattle.ytables.specs.declared.cell.Action.TheVariants.{Accept}
use Rattle.ytables.specs.Tables.{shift_of, shift_to}
use Rattle.ytables.proofs.row.shift_at.Goals as goal

shift_other : (to : ℕ → Option ℕ) (t : ℕ) (o : Option ℕ) → (t ≡ 0 → ⊥) → o ≡ to t →
    shift_to o ≡ shift_of to t
shift_other to t o n e = go (eqb_tells t 0)
  where
    go : ((nat_eq t 0 ≡ true) × (t ≡ 0)) ⊎ ((nat_eq t 0 ≡ false) × (t ≡ 0 → ⊥)) →
        shift_to o ≡ shift_of to t
    go (inl p) = absurd (n p.1)
    go (inr p) = ap shift_to e ∙ sym (ap (λ b. if b then Accept else shift_to (to t)) p.0)

pub returns-in-Some : goal.returns-in-Some
returns-in-Some c =
    let m = c.args.automaton.now in
    ap shift_to (sym c.in-Some.is) ∙ shift_other (goto_in m c.args.q) c.args.t c.goto.result
    c.if-t-eq-END.false c.goto.ensures.value

pub returns-in-None : goal.returns-in-None
returns-in-None c =
    let m = c.args.automaton.now in
    ap shift_to (sym c.in-None.is) ∙ shift_other (goto_in m c.args.q) c.args.t c.goto.result
    c.if-t-eq-END.false c.goto.ensures.value
