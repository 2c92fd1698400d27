use Rattle.std.proofs.Common.{ℕ, ◌≡◌, ◌∷◌, List, drop, sym, subst, inl, inr}
use Rattle.std.specs.List.{Contains}
use Rattle.ysymbols.specs.Grammar.{left_of, body_of}
use Rattle.ylalr.specs.Collection.{bare_of, state_of}
use Rattle.yprovenance.specs.declared.front.Front.TheVariants.{Neither}
use Rattle.yprovenance.specs.declared.reason.Cause.TheVariants.{Begins, Passes}
use Rattle.yprovenance.specs.declared.trail.Entry.{Entry}
use Rattle.yprovenance.specs.Reasons.{Has}
use Rattle.yprovenance.specs.Trail.{IsPlace, IsTried}
use Rattle.yprovenance.proofs.SearchSteps.{has_begun, open_trail}
use Rattle.yprovenance.proofs.TrailSteps.{puts_there}
use Rattle.yprovenance.proofs.search.try_item.Goals.{After-front_after}
use Rattle.yprovenance.proofs.search.try_item.Goals as goal

-- the place of the entry
at : (c : After-front_after) → IsPlace c.args.automaton.now c.at.result.place
at c = subst (λ (x : Entry). IsPlace c.args.automaton.now x.place) (sym c.at.ensures.value)
    (c.requires.trail.places c.args.index c.requires.index)

there : (c : After-front_after) →
    Contains (state_of c.args.automaton.now c.at.result.place.state) c.args.item
there c = subst
    (λ (x : Entry). Contains (state_of c.args.automaton.now x.place.state) c.args.item)
    (sym c.at.ensures.value) c.requires.there

first : (c : After-front_after) → c.at.result.place.item.dot ≡ 0
first c = subst (λ (x : Entry). x.place.item.dot ≡ 0) (sym c.at.ensures.value) c.requires.first

-- what stands after the left side
rest : (c : After-front_after) → (c.front_after.result ≡ Neither → ⊥) → (y : List ℕ) ×
    (drop c.args.item.dot (body_of (bare_of c.args.automaton.now) c.args.item.rule)
    ≡ left_of (bare_of c.args.automaton.now) c.at.result.place.item.rule ∷ y)
rest c n = elim c.front_after.ensures.next as (λ z. (y : List ℕ) ×
    (drop c.args.item.dot (body_of (bare_of c.args.automaton.now) c.args.item.rule)
    ≡ left_of (bare_of c.args.automaton.now) c.at.result.place.item.rule ∷ y)) [
      | inl e ↦ absurd (n e)
      | inr y ↦ y
    ]

pub returns-in-Begins-clause-found : goal.returns-in-Begins-clause-found
returns-in-Begins-clause-found c =
    let m = c.args.automaton.now in
    let k = (goal.at.returns-in-Begins-clause-found c).After-front_after in
    let y = rest k (λ e. let b = c.in-Begins.is in cc) in
    subst (λ (x : Entry). Has m c.args.token x.place (Begins c.args.item)) c.at.ensures.value
    (has_begun m c.states-states.ensures.states c.args.token c.at.result.place c.args.item y.0
    (at k) (first k) (there k) y.1 (c.in-Begins.ensures.front y.0 y.1))

pub returns-in_ok-put-in-Vanishes-clause-trail : goal.returns-in_ok-put-in-Vanishes-clause-trail
returns-in_ok-put-in-Vanishes-clause-trail c =
    let m = c.args.automaton.now in
    let k = (goal.at.returns-in_ok-put-in-Vanishes-clause-trail c).After-front_after in
    let y = rest k (λ e. let b = c.in-Vanishes.is in cc) in
    open_trail m c.states-states.ensures.states c.args.trail.now c.put.new.self c.args.index
    c.at.result c.args.item y.0 c.requires.trail c.requires.index c.at.ensures.value (first k)
    (there k) y.1 (c.in-Vanishes.ensures.front y.0 y.1).1 c.in_ok-put-in-Vanishes.ensures

pub returns-in_ok-put-in-Vanishes-clause-found : goal.returns-in_ok-put-in-Vanishes-clause-found
returns-in_ok-put-in-Vanishes-clause-found c =
    subst (λ (x : Entry). IsTried c.args.automaton.now c.args.token c.put.new.self x.place c.args.item)
    c.at.ensures.value (record {
      none = λ y e. (c.in-Vanishes.ensures.front y e).0;
      every = λ y e n. puts_there c.args.trail.now (record {
        place = record { state = c.at.result.place.state; item = c.args.item };
        cause = Passes;
        gives = c.args.index;
      }) c.put.new.self c.in_ok-put-in-Vanishes.ensures;
    })
