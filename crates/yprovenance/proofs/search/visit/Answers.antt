use Rattle.std.proofs.Common.{◌≡◌, Option, MatchOption, refl, sym, subst, arith}
use Rattle.std.specs.List.{Contains}
use Rattle.ylalr.specs.declared.items.Item.{Item}
use Rattle.ylalr.specs.Collection.{state_of}
use Rattle.yprovenance.specs.declared.reason.Cause.{Cause}
use Rattle.yprovenance.specs.declared.trail.Entry.{Entry}
use Rattle.yprovenance.specs.Reasons.{Has}
use Rattle.yprovenance.specs.Trail.{entry_at, IsTried, IsVisited}
use Rattle.yprovenance.specs.declared.reason.Cause.TheVariants.{Starts}
use Rattle.yprovenance.proofs.SearchSteps.{has_starts, starts_here, visited_open}
use Rattle.yprovenance.proofs.search.visit.Goals as goal

pub returns-then-is_start-clause-found : goal.returns-then-is_start-clause-found
returns-then-is_start-clause-found c =
    let h = c.is_start.ensures.0 c.if-is_start.true in
    subst (λ (x : Entry). Has c.args.automaton.now c.args.token x.place Starts) c.at.ensures.value
    (starts_here c.args.automaton.now c.args.token c.at.result.place h.0 h.1 h.2 h.3)

pub returns-in-None-clause-found : goal.returns-in-None-clause-found
returns-in-None-clause-found c =
    let m = c.args.automaton.now in
    let a = c.args.token in
    let new = c.open.new.trail in
    let e = c.at.result in
    let same = c.at.ensures.value in
    let z : e.place.item.dot ≡ 0 = (let g = c.if-place-gt0.false in omega (arith, g)) in
    let first : Has m a e.place Starts → ⊥ =
    λ h. let t = c.is_start.ensures.1 (has_starts h refl) in let f = c.if-is_start.false in cc in
    let tried = subst (λ (x : Entry). (i : Item) → Contains (state_of m x.place.state) i →
    IsTried m a new x.place i) (sym same)
    (subst (λ (o : Option Cause). MatchOption o
    ((i : Item) → Contains (state_of m (entry_at c.args.trail.now c.args.index).place.state) i →
    IsTried m a new (entry_at c.args.trail.now c.args.index).place i)
    (λ d. Has m a (entry_at c.args.trail.now c.args.index).place d)) c.in-None.is
    c.in_ok-cause.ensures.found) in
    subst (λ (x : Entry). IsVisited m a new x.place) same
    (visited_open m a new e.place z first tried)
