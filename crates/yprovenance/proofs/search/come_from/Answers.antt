use Rattle.std.proofs.Common.{suc, ◌≡◌, ◌<◌, ◌-◌, ◌∙◌, ◌∷◌, drop, sym, ap, subst, arith, Some}
use Rattle.std.specs.List.{Contains}
use Rattle.ysymbols.specs.Grammar.{body_of}
use Rattle.ylalr.specs.Collection.{bare_of, goto_in}
use Rattle.yprovenance.specs.declared.reason.Place.{Place}
use Rattle.yprovenance.specs.declared.reason.Cause.TheVariants.{Moves}
use Rattle.yprovenance.specs.declared.trail.Entry.{Entry}
use Rattle.yprovenance.specs.Reasons.{place_of}
use Rattle.yprovenance.specs.Trail.{entry_at, places_of}
use Rattle.yprovenance.proofs.SearchSteps.{come_trail, some_eq}
use Rattle.yprovenance.proofs.TrailSteps.{puts_there}
use Rattle.yprovenance.proofs.search.come_from.Goals as goal

pub returns-in_ok-put-clause-trail : goal.returns-in_ok-put-clause-trail
returns-in_ok-put-clause-trail c =
    let m = c.args.automaton.now in
    let e = c.at.result in
    let same = c.at.ensures.value in
    let d = e.place.item.dot - 1 in
    let dot : 0 < e.place.item.dot = subst (λ (x : Entry). 0 < x.place.item.dot) (sym same)
    c.requires.dot in
    let past : e.place.item.dot ≡ suc d = omega (arith, dot) in
    let y = c.requires.before d (subst (λ (x : Entry). x.place.item.dot ≡ suc d) same past) in
    let next = subst
    (λ (x : Entry). drop d (body_of (bare_of m) x.place.item.rule) ≡ c.args.symbol ∷ y.0)
    (sym same) y.1 in
    let goto : goto_in m c.args.state c.args.symbol ≡ Some e.place.state =
    sym c.goto.ensures.value ∙ some_eq c.goto.result e.place.state (sym c.eq.ensures ∙ c.if-eq.true) in
    come_trail m c.states-states.ensures.states c.args.trail.now c.put.new.self c.args.index
    c.args.state c.args.symbol d e y.0 c.requires.trail c.requires.index same c.requires.state
    c.requires.symbol c.requires.other past next goto c.in_ok-put.ensures

pub returns-in_ok-put-clause-there : goal.returns-in_ok-put-clause-there
returns-in_ok-put-clause-there c = λ d dot g.
    let e = c.at.result in
    let f = entry_at c.args.trail.now c.args.index in
    let q = c.args.state in
    let P : Entry → Place = λ (x : Entry). place_of q x.place.item.rule (x.place.item.dot - 1) in
    let less : f.place.item.dot - 1 ≡ d = omega (arith, dot) in
    subst (λ (p : Place). Contains (places_of c.put.new.self) p)
    (ap P c.at.ensures.value ∙ ap (λ n. place_of q f.place.item.rule n) less)
    (puts_there c.args.trail.now (record { place = P e; cause = Moves; gives = c.args.index })
    c.put.new.self c.in_ok-put.ensures)
