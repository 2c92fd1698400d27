use Rattle.std.proofs.Common.{ℕ, ◌≡◌, ◌<◌, ◌∙◌, ◌∷◌, List, Some, None, length}
use Rattle.std.proofs.Common.{get_or, drop, inl, inr, sym, ap, subst, arith}
use Rattle.ysymbols.specs.Grammar.{body_of}
use Rattle.ylalr.specs.declared.items.Item.{Item}
use Rattle.ylalr.specs.Collection.{bare_of, state_of, goto_in}
use Rattle.ybitsets.proofs.Turn.{same_default}
use Rattle.ybitsets.specs.Links.{Link}
use Rattle.ybitsets.proofs.LinkSteps.{link_there, link_kept, links_push}
use Rattle.yprovenance.proofs.BeforeSteps.{last_or_before}
use Rattle.yprovenance.proofs.before.list_state.Goals.{After-target, in-Some+in_ok-push, in_default}
use Rattle.yprovenance.proofs.before.list_state.Goals as goal

-- the item that is asked
abbrev item : After-target → Item
item c = get_or c.items-item-items.result.now c.loop-item.item-index
    (record { rule = 0; dot = 0 })

-- an item that stands there is the one that is asked
asked : (c : After-target) (k : ℕ) (i : Item) → k ≡ c.loop-item.item-index →
    get_or (state_of c.args.automaton.now c.args.state) k i ≡ i → item c ≡ i
asked c k i e g =
    let items = c.items-item-items.result.now in
    let h : c.loop-item.item-index < length items = omega arith in
    same_default items c.loop-item.item-index (record { rule = 0; dot = 0 }) i h ∙ ap
    (λ (y : List Item). get_or y c.loop-item.item-index i) c.items-item-items.ensures ∙ ap
    (λ j. get_or (state_of c.args.automaton.now c.args.state) j i) (sym e) ∙ g

-- where the target of an item is known
found : (c : After-target) (k n x : ℕ) (i : Item) (y : List ℕ) → k ≡ c.loop-item.item-index →
    get_or (state_of c.args.automaton.now c.args.state) k i ≡ i →
    drop i.dot (body_of (bare_of c.args.automaton.now) i.rule) ≡ x ∷ y →
    goto_in c.args.automaton.now c.args.state x ≡ Some n → c.target.result ≡ Some n
found c k n x i y e g d t =
    let m = c.args.automaton.now in
    subst (λ (z : Item). drop z.dot (body_of (bare_of m) z.rule) ≡ x ∷ y →
    goto_in m c.args.state x ≡ Some n → c.target.result ≡ Some n) (asked c k i e g)
    (c.target.ensures.every n x y) d t

pub loop-item-preserved : goal.loop-item-preserved
loop-item-preserved c =
    let m = c.args.automaton.now in
    let q = c.args.state in
    let old = c.loop-item.before in
    let inv = c.loop-item.invariant in
    let here = (goal.at.loop-item-preserved c).After-target in
    elim c.match-target.branch [
      | in-Some+in_ok-push w ↦
          (let more = w.push.new.self in
          let n = w.in-Some.n in
          let size : length old ≡ length m.states = inv.links.sized in
          let to : n < length m.states = w.in-Some.ensures.within in
          let h : n < length old = omega (arith, size, to) in
          let e = w.in_ok-push.ensures in
          rw w.before-is record {
            links = links_push old more n q h e (length m.states) inv.links c.requires.state;
            kept = λ p t l. link_kept old more n q h e p t (inv.kept p t l);
            every = λ k b x i y l g d t. elim (last_or_before k c.loop-item.item-index l)
                as (λ z. Link more b q) [
                  | inl a ↦ link_kept old more n q h e b q (inv.every k b x i y a g d t)
                  | inr a ↦ (let f = found here k b x i y a g d t in let o = w.in-Some.is in
                      let p : Some n ≡ Some b = sym o ∙ f in let same : n ≡ b = cc in
                      subst (λ z. Link more z q) same (link_there old more n q h e))
                ];
          })
      | in_default w ↦ rw w.before-is record {
        links = inv.links;
        kept = inv.kept;
        every = λ k n x i y l g d t. elim (last_or_before k c.loop-item.item-index l)
            as (λ z. Link old n q) [
              | inl a ↦ inv.every k n x i y a g d t
              | inr a ↦ (let f = found here k n x i y a g d t in let o = w.in_default.is in
                  let p : None ≡ Some n = sym o ∙ f in absurd (cc))
            ];
      }
    ]
