use Rattle.std.proofs.Common.{ℕ, suc, ◌≡◌, ◌<◌, ◌-◌, ◌∙◌, ◌∷◌, List, length, drop, get_or, sym, ap}
use Rattle.std.proofs.Common.{subst}
use Rattle.std.proofs.Common.{inl, inr, arith, Some}
use Rattle.std.specs.List.{Contains}
use Rattle.ysymbols.specs.Grammar.{GrammarValue, Production, body_of}
use Rattle.ylalr.specs.Collection.{bare_of, goto_in}
use Rattle.ybitsets.proofs.Turn.{same_default}
use Rattle.ybitsets.specs.Links.{links_of}
use Rattle.ybitsets.proofs.LinkSteps.{links_below}
use Rattle.yprovenance.specs.declared.reason.Place.{Place}
use Rattle.yprovenance.specs.declared.trail.Entry.{Entry}
use Rattle.yprovenance.specs.Reasons.{place_of}
use Rattle.yprovenance.specs.Trail.{entry_at, places_of}
use Rattle.yprovenance.proofs.BeforeSteps.{last_or_before}
use Rattle.yprovenance.proofs.SearchSteps.{gives_moved, moved_symbol, symbol_before, symbol_is}
use Rattle.yprovenance.proofs.SearchSteps.{state_within}
use Rattle.yprovenance.proofs.TrailSteps.{extends_at, extends_length, extends_place, extends_then}
use Rattle.yprovenance.proofs.search.come_back.Goals.{After-body}
use Rattle.yprovenance.proofs.search.come_back.Goals as goal

-- the body that is read
body : (c : After-body) →
    c.body.result.now ≡ body_of (bare_of c.args.automaton.now) c.at.result.place.item.rule
body c = c.body.ensures ∙ ap (λ (p : Production). p.body) c.rule.ensures.production ∙ ap
    (λ (v : GrammarValue). body_of v.bare c.at.result.place.item.rule) c.grammar-grammar.ensures

pub returns-then-symbol-eq-END-clause-every : goal.returns-then-symbol-eq-END-clause-every
returns-then-symbol-eq-END-clause-every c = λ p how g.
    let m = c.args.automaton.now in
    let f = entry_at c.args.trail.now c.args.index in
    let d = f.place.item.dot - 1 in
    let past : f.place.item.dot ≡ suc d = (let z = c.requires.dot in omega (arith, z)) in
    let i = gives_moved d past g in
    let at = c.requires.trail.places c.args.index c.requires.index in
    let read = symbol_is m c.at.result f c.body.result.now d c.at.ensures.value
    (body (goal.at.returns-then-symbol-eq-END-clause-every c).After-body) past in
    absurd (i.other (moved_symbol m c.states-states.ensures.states p f.place d at past i ∙ sym read ∙
    c.if-symbol-eq-END.true))

pub come_from-requires-clause-state : goal.come_from-requires-clause-state
come_from-requires-clause-state c =
    let n = length c.args.automaton.now.states in
    let k = c.loop-state.state-index in
    let st = c.at.result.place.state in
    let h : k < length c.of-state-items.result.now = omega arith in
    subst (λ (xs : List ℕ). get_or xs k 0 < n) (sym c.of-state-items.ensures)
    (links_below n c.args.before.now st c.requires.before.links k 0
    (subst (λ (xs : List ℕ). k < length xs) c.of-state-items.ensures h))

pub come_from-requires-clause-before : goal.come_from-requires-clause-before
come_from-requires-clause-before c = λ d dot.
    let m = c.args.automaton.now in
    let old = c.args.trail.now in
    let now = c.loop-state.trail in
    let k = c.args.index in
    let i = c.loop-state.invariant in
    let f = entry_at now k in
    let there : k < length now = (let a = extends_length old now i.extends in
    let b = c.requires.index in omega (arith, a, b)) in
    let read = symbol_is m c.at.result f c.body.result.now d
    (c.at.ensures.value ∙ sym (extends_at old now i.extends k c.requires.index))
    (body (goal.at.come_from-requires-clause-before c).After-body) dot in (
      drop (suc d) (body_of (bare_of m) f.place.item.rule),
      symbol_before m c.states-states.ensures.states f.place d (i.trail.places k there) dot ∙ ap
          (λ s. s ∷ drop (suc d) (body_of (bare_of m) f.place.item.rule)) (sym read),
    )

pub loop-state-preserved : goal.loop-state-preserved
loop-state-preserved c =
    let m = c.args.automaton.now in
    let old = c.args.trail.now in
    let now = c.loop-state.trail in
    let new = c.come_from.new.trail in
    let n = c.args.index in
    let idx = c.loop-state.state-index in
    let i = c.loop-state.invariant in
    let e = c.in_ok-come_from.ensures in
    let f = entry_at old n in
    let items = c.of-state-items.result.now in
    let x = get_or c.body.result.now (c.at.result.place.item.dot - 1) 0 in
    let st = get_or items idx 0 in
    let h : idx < length items = omega arith in
    let listed : items ≡ links_of c.args.before.now f.place.state = c.of-state-items.ensures ∙ ap
    (λ (y : Entry). links_of c.args.before.now y.place.state) c.at.ensures.value in
    let there = subst (λ (y : Entry). (d : ℕ) → y.place.item.dot ≡ suc d →
    goto_in m st x ≡ Some y.place.state →
    Contains (places_of new) (place_of st y.place.item.rule d))
    (extends_at old now i.extends n c.requires.index) e.there in
    record {
      trail = e.trail;
      extends = extends_then old now new i.extends e.extends;
      asked = λ k q d l g dot goto. elim (last_or_before k idx l)
          as (λ z. Contains (places_of new) (place_of q f.place.item.rule d)) [
            | inl a ↦ extends_place now new e.extends (place_of q f.place.item.rule d)
                (i.asked k q d a g dot goto)
            | inr a ↦
                (let same : st ≡ q = same_default items idx 0 q h ∙ ap
                (λ (y : List ℕ). get_or y idx q) listed ∙ ap
                (λ j. get_or (links_of c.args.before.now f.place.state) j q) (sym a) ∙ g in
                subst (λ z. goto_in m z x ≡ Some f.place.state →
                Contains (places_of new) (place_of z f.place.item.rule d)) same (there d dot) goto)
          ];
    }

pub returns-clause-every : goal.returns-clause-every
returns-clause-every c = λ p how g.
    let m = c.args.automaton.now in
    let f = entry_at c.args.trail.now c.args.index in
    let items = c.of-state-items.result.now in
    let x = get_or c.body.result.now (c.at.result.place.item.dot - 1) 0 in
    let d = f.place.item.dot - 1 in
    let past : f.place.item.dot ≡ suc d = (let z = c.requires.dot in omega (arith, z)) in
    let i = gives_moved d past g in
    let at = c.requires.trail.places c.args.index c.requires.index in
    let read = symbol_is m c.at.result f c.body.result.now d c.at.ensures.value
    (body (goal.at.returns-clause-every c).After-body) past in
    let symbol = moved_symbol m c.states-states.ensures.states p f.place d at past i ∙ sym read in
    let link = c.requires.before.every p.state (state_within m p.state _ i.there) f.place.state
    i.symbol (record { rule = f.place.item.rule; dot = d }) i.rest i.there i.next i.goto in
    let listed : items ≡ links_of c.args.before.now f.place.state = c.of-state-items.ensures ∙ ap
    (λ (y : Entry). links_of c.args.before.now y.place.state) c.at.ensures.value in
    let size : length items ≡ length (links_of c.args.before.now f.place.state) = ap
    (λ (y : List ℕ). length y) listed in
    let before : link.0 < c.loop-state.state-index = (let l = link.1 in omega (arith, l, size)) in
    subst (λ (y : Place). Contains (places_of c.loop-state.trail) y) (sym i.place)
    (c.loop-state.invariant.asked link.0 p.state d before link.2 past
    (subst (λ s. goto_in m p.state s ≡ Some f.place.state) symbol i.goto))
