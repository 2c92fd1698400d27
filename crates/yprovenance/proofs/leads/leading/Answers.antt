use Rattle.std.proofs.Common.{ℕ, ◌≡◌, ◌<◌, ◌↔◌, refl, inl, inr, length}
use Rattle.std.specs.List.{Contains}
use Rattle.ylalr.specs.declared.items.Item.{Item}
use Rattle.ylalr.specs.Collection.{bare_of, state_of}
use Rattle.ylalr.specs.Sets.{IsWithin}
use Rattle.ybitsets.specs.Rows.{Holds}
use Rattle.yprovenance.specs.Leads.{IsAmong, Leads}
use Rattle.yprovenance.proofs.SearchSteps.{of_all}
use Rattle.yprovenance.proofs.LeadSteps.{among_leads, ok_then}
use Rattle.yprovenance.proofs.leads.leading.Goals.{After-drop-links-inside-2}
use Rattle.yprovenance.proofs.leads.leading.Goals as goal

-- what the rows have leads to the symbol
leads : (c : After-drop-links-inside-2) → (i : Item) →
    (Contains (state_of c.args.automaton.now c.args.q) i × IsAmong c.args.automaton.now
    c.spread.new.rows i) ↔ Leads c.args.automaton.now c.args.q c.args.x i
leads c =
    let m = c.args.automaton.now in
    let q = c.args.q in
    let x = c.args.x in
    let old = c.mark.new.self in
    let only : (z : ℕ) → Holds old z 0 → z ≡ x =
    λ z h. elim ((c.mark.ensures.exact z 0).0 h) as (λ y. z ≡ x) [
      | inl n ↦ absurd (c.in_ok-symbols.ensures.empty z 0 n)
      | inr e ↦ e.0
    ] in
    let within : (i : Item) → Contains (state_of m q) i → i.rule < length (bare_of m).rules =
    λ i s. (of_all (λ (i : Item). IsWithin (bare_of m) i) (state_of m q) i
    (c.states-states.ensures.states.range q c.requires.state) s).0 in
    among_leads m q x c.in_ok-links.links c.in_ok-links.ensures old only within c.spread.new.rows
    c.in_ok-spread.ensures.exact ((c.mark.ensures.exact x 0).1 (inr (refl, refl)))

pub returns-clause-exact : goal.returns-clause-exact
returns-clause-exact c =
    let m = c.args.automaton.now in
    let q = c.args.q in
    ok_then (λ v. (i : Item) → Contains v.items i ↔ (Contains (state_of m q) i × IsAmong m c.spread.new.rows i))
    (λ v. (i : Item) → Contains v.items i ↔ Leads m q c.args.x i)
    (λ v h i. ((λ f. (leads c i).0 ((h i).0 f)), (λ f. (h i).1 ((leads c i).1 f)))) c.items_among.result
    c.items_among.ensures.exact
