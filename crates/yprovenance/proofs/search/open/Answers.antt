use Rattle.std.proofs.Common.{◌≡◌, ◌<◌, ◌∙◌, List, Option, MatchOption, length, get_or, sym, ap}
use Rattle.std.proofs.Common.{subst}
use Rattle.std.proofs.Common.{inl, inr, arith}
use Rattle.ylalr.specs.declared.items.Item.{Item}
use Rattle.ylalr.specs.Collection.{state_of}
use Rattle.ybitsets.proofs.Turn.{same_default}
use Rattle.yprovenance.specs.declared.trail.Entry.{Entry}
use Rattle.yprovenance.specs.declared.reason.Cause.{Cause}
use Rattle.yprovenance.specs.Reasons.{Has}
use Rattle.yprovenance.specs.Trail.{entry_at, IsTried}
use Rattle.yprovenance.proofs.BeforeSteps.{last_or_before}
use Rattle.yprovenance.proofs.TrailSteps.{extends_at, extends_then, tried_kept}
use Rattle.yprovenance.proofs.search.open.Goals as goal

pub loop-item-preserved : goal.loop-item-preserved
loop-item-preserved c =
    let m = c.args.automaton.now in
    let a = c.args.token in
    let old = c.args.trail.now in
    let now = c.loop-item.trail in
    let new = c.try_item.new.trail in
    let idx = c.loop-item.item-index in
    let inv = c.loop-item.invariant in
    let e = c.in_ok-cause.ensures in
    let f = entry_at old c.args.index in
    let items = c.items-item-items.result.now in
    let none : Item = record { rule = 0; dot = 0 } in
    let h : idx < length items = omega arith in
    let listed : items ≡ state_of m f.place.state = c.items-item-items.ensures ∙ ap
    (λ (y : Entry). state_of m y.place.state) c.at.ensures.value in
    let tried = subst (λ (y : Entry). IsTried m a new y.place (get_or items idx none))
    (extends_at old now inv.extends c.args.index c.requires.index)
    (subst (λ (o : Option Cause). MatchOption o
    (IsTried m a new (entry_at now c.args.index).place (get_or items idx none))
    (λ d. Has m a (entry_at now c.args.index).place d)) c.in_default.is e.found) in
    record {
      trail = e.trail;
      extends = extends_then old now new inv.extends e.extends;
      tried = λ k i l g. elim (last_or_before k idx l) as (λ z. IsTried m a new f.place i) [
        | inl b ↦ tried_kept now new e.extends m a f.place i (inv.tried k i b g)
        | inr b ↦ subst (λ (z : Item). IsTried m a new f.place z)
            (same_default items idx none i h ∙ ap (λ (y : List Item). get_or y idx i) listed ∙ ap
            (λ j. get_or (state_of m f.place.state) j i) (sym b) ∙ g) tried
      ];
    }
