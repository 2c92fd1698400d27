use Rattle.std.proofs.Common.{ℕ, ◌≡◌, ◌<◌, ◌∙◌, List, length, get_or, inl, inr, sym, ap, subst}
use Rattle.std.proofs.Common.{arith}
use Rattle.std.specs.List.{Contains}
use Rattle.std.proofs.lemmas.List.Elements.{Contains-get_or}
use Rattle.ylalr.specs.declared.items.Item.{Item}
use Rattle.ylalr.specs.Collection.{state_of}
use Rattle.ybitsets.proofs.Turn.{same_default}
use Rattle.ybitsets.specs.Links.{Link}
use Rattle.yprovenance.specs.Leads.{IsOpening}
use Rattle.yprovenance.proofs.BeforeSteps.{last_or_before}
use Rattle.yprovenance.proofs.leads.openings.Goals as goal

pub loop-item-preserved : goal.loop-item-preserved
loop-item-preserved c =
    let m = c.args.automaton.now in
    let q = c.args.q in
    let new = c.link_item.new.links in
    let idx = c.loop-item.item-index in
    let inv = c.loop-item.invariant in
    let e = c.in_ok-link_item.ensures in
    let items = c.items-item-items.result.now in
    let none : Item = record { rule = 0; dot = 0 } in
    let item : Item = get_or items idx none in
    let h : idx < length items = omega arith in
    let listed : items ≡ state_of m q = c.items-item-items.ensures in
    record {
      links = e.links;
      every = λ k i p t l g o. elim (last_or_before k idx l) as (λ z. Link new p t) [
        | inl b ↦ e.kept p t (inv.every k i p t b g o)
        | inr b ↦ e.every p t (subst (λ (z : Item). IsOpening m z p t)
            (sym (same_default items idx none i h ∙ ap (λ (y : List Item). get_or y idx i) listed ∙
            ap (λ j. get_or (state_of m q) j i) (sym b) ∙ g)) o)
      ];
      only = λ p t l. elim (e.only p t l) as
          (λ z. (i : Item) × Contains (state_of m q) i × IsOpening m i p t) [
            | inl a ↦ inv.only p t a
            | inr o ↦ (
              item,
              subst (λ (y : List Item). Contains y item) listed (Contains-get_or items idx none h),
              o,
            )
          ];
    }

pub returns : goal.returns
returns c =
    let inv = c.loop-item.invariant in
    record {
      links = inv.links;
      every = λ i p t s o.
          let n = ap (λ (y : List Item). length y) c.items-item-items.ensures in
          let h = s.1 in
          inv.every s.0 i p t (omega (arith, n, h)) s.2 o;
      only = inv.only;
    }
