use Rattle.std.proofs.Common.{ℕ, ◌≡◌, ◌<◌, ◌+◌, ◌∙◌, ◌∷◌, ◌++◌, [], List, length, get_or, inl, inr}
use Rattle.std.proofs.Common.{sym, ap, subst, arith}
use Rattle.std.specs.List.{Contains}
use Rattle.std.proofs.lemmas.List.Elements.{Contains-append_left, Contains-push}
use Rattle.ylalr.specs.declared.items.Item.{Item}
use Rattle.ylalr.specs.Collection.{state_of}
use Rattle.ylalr.specs.Sets.{Before, IsAscending}
use Rattle.ylalr.proofs.ListSteps.{all_of, contains_push, push_ascending}
use Rattle.ybitsets.proofs.Turn.{same_default}
use Rattle.yprovenance.specs.Leads.{IsAmong}
use Rattle.yprovenance.proofs.BeforeSteps.{last_or_before}
use Rattle.yprovenance.proofs.leads.items_among.Goals.{then-is_among+in_ok-push, else-is_among}
use Rattle.yprovenance.proofs.leads.items_among.Goals as goal

pub loop-item-preserved : goal.loop-item-preserved
loop-item-preserved c =
    let m = c.args.automaton.now in
    let q = c.args.q in
    let n = c.args.symbols.now in
    let old = c.loop-item.found.items in
    let idx = c.loop-item.item-index in
    let inv = c.loop-item.invariant in
    let items = c.items-item-items.result.now in
    let none : Item = record { rule = 0; dot = 0 } in
    let item : Item = get_or items idx none in
    let h : idx < length items = omega arith in
    let listed : items ≡ state_of m q = c.items-item-items.ensures in
    let size = ap (λ (y : List Item). length y) listed in
    let at : (i : Item) → item ≡ get_or (state_of m q) idx i =
    λ i. same_default items idx none i h ∙ ap (λ (y : List Item). get_or y idx i) listed in
    let found : (i : Item) → Contains old i → (k : ℕ) × (k < idx + 1) ×
    (get_or (state_of m q) k i ≡ i) × IsAmong m n i =
    λ i f. let s = inv.found i f in let l = s.1 in (s.0, omega (arith, l), s.2, s.3) in
    elim c.if-is_among.branch [
      | then-is_among+in_ok-push w ↦
          (let a : IsAmong m n item = c.is_among.ensures.0 w.if-is_among.true in
          let new = w.push.new.self.items in
          let e : new ≡ old ++ item ∷ [] = w.in_ok-push.ensures.items in
          rw w.found-is record {
            order = subst (λ (z : List Item). IsAscending z) (sym e) (push_ascending old item inv.order (all_of (λ (i : Item). Before i item) old
                (λ i f. let s = inv.found i f in
                subst (λ (z : Item). Before z item) s.2
                (subst (λ (z : Item). Before (get_or (state_of m q) s.0 i) z) (sym (at i))
                (c.states-states.ensures.states.ordered q c.requires.state s.0 idx i s.1
                (omega (arith, h, size)))))));
            found = λ i f. elim ((contains_push old item i).0
                (subst (λ (z : List Item). Contains z i) e f)) as (λ z. (k : ℕ) × (k < idx + 1) ×
                (get_or (state_of m q) k i ≡ i) × IsAmong m n i) [
                  | inl b ↦ found i b
                  | inr b ↦ (
                    idx,
                    omega arith,
                    sym (at i) ∙ sym b,
                    subst (λ (z : Item). IsAmong m n z) (sym b) a,
                  )
                ];
            every = λ k i l g s. elim (last_or_before k idx l) as
                (λ z. Contains new i) [
                  | inl b ↦ subst (λ (z : List Item). Contains z i) (sym e)
                      ((contains_push old item i).1 (inl (inv.every k i b g s)))
                  | inr b ↦ subst (λ (z : List Item). Contains z i) (sym e)
                      ((contains_push old item i).1 (inr (sym (at i ∙ ap
                      (λ j. get_or (state_of m q) j i) (sym b) ∙ g))))
                ];
          })
      | else-is_among w ↦ rw w.found-is record {
        order = inv.order;
        found = found;
        every = λ k i l g s. elim (last_or_before k idx l) as (λ z. Contains old i) [
          | inl b ↦ inv.every k i b g s
          | inr b ↦ (let e : item ≡ i = at i ∙ ap (λ j. get_or (state_of m q) j i) (sym b) ∙ g in
              let t = c.is_among.ensures.1 (subst (λ (z : Item). IsAmong m n z) (sym e) s) in
              let f = w.if-is_among.false in absurd (cc))
        ];
      }
    ]

pub returns-clause-exact : goal.returns-clause-exact
returns-clause-exact c = λ i.
    let m = c.args.automaton.now in
    let inv = c.loop-item.invariant in
    let n = ap (λ (y : List Item). length y) c.items-item-items.ensures in (
      (λ f. let s = inv.found i f in let h = s.1 in
          ((s.0, omega (arith, n, h), s.2), s.3)),
      (λ s. let h = s.0.1 in inv.every s.0.0 i (omega (arith, n, h)) s.0.2 s.1),
    )
