use Rattle.std.proofs.Common.{ℕ, ◌<◌, List, Option, MatchOption, length, sym, subst, inl, inr}
use Rattle.std.proofs.Common.{arith}
use Rattle.ysymbols.specs.Grammar.{GrammarValue}
use Rattle.ysymbols.specs.WellFormed.{WellFormed}
use Rattle.ylalr.specs.Items.{Lookahead}
use Rattle.ylalr.specs.Collection.{Collection, bare_of, state_of}
use Rattle.yprovenance.specs.declared.reason.Cause.{Cause}
use Rattle.yprovenance.specs.declared.trail.Entry.{Entry}
use Rattle.yprovenance.specs.Reasons.{Has}
use Rattle.yprovenance.specs.Trail.{entry_at, Extends, IsVisited}
use Rattle.yprovenance.proofs.BeforeSteps.{last_or_before}
use Rattle.yprovenance.proofs.SearchSteps.{all_visited}
use Rattle.yprovenance.proofs.TrailSteps.{extends_at, extends_length, extends_then, visited_kept}
use Rattle.yprovenance.proofs.search.search.Goals.{After-symbols-well_formed}
use Rattle.yprovenance.proofs.search.search.Goals as goal

-- the grammar is well formed
well_formed : (c : After-symbols-well_formed) → WellFormed (bare_of c.args.automaton.now)
well_formed c = subst (λ (v : GrammarValue). WellFormed v.bare) c.grammar.ensures
    c.symbols-well_formed.ensures.well_formed

-- that of the first entry, at the start
first : (m : Collection) (a : ℕ) (old now : List Entry) → 0 < length old → Extends old now →
    (Lookahead (bare_of m) (state_of m (entry_at now 0).place.state) (entry_at now 0).place.item a →
    ⊥) → Lookahead (bare_of m) (state_of m (entry_at old 0).place.state)
    (entry_at old 0).place.item a → ⊥
first m a old now z x n = subst (λ (e : Entry). Lookahead (bare_of m) (state_of m e.place.state)
    e.place.item a → ⊥) (extends_at old now x 0 z) n

pub returns-then-index-len-clause-found : goal.returns-then-index-len-clause-found
returns-then-index-len-clause-found c =
    let i = c.loop-index.invariant in
    first c.args.automaton.now c.args.token c.args.trail.now c.loop-index.trail
    c.requires.trail.some i.extends (all_visited c.args.automaton.now c.args.token
    c.loop-index.trail
    (well_formed (goal.at.returns-then-index-len-clause-found c).After-symbols-well_formed)
    c.states-states.ensures.states i.trail (λ k h. i.visited k (omega (arith, h))))

pub returns-clause-found : goal.returns-clause-found
returns-clause-found c =
    let i = c.loop-index.invariant in
    first c.args.automaton.now c.args.token c.args.trail.now c.loop-index.trail
    c.requires.trail.some i.extends (all_visited c.args.automaton.now c.args.token
    c.loop-index.trail (well_formed (goal.at.returns-clause-found c).After-symbols-well_formed)
    c.states-states.ensures.states i.trail (λ k h. i.visited k (omega (arith, h))))

pub loop-index-preserved : goal.loop-index-preserved
loop-index-preserved c =
    let m = c.args.automaton.now in
    let a = c.args.token in
    let now = c.loop-index.trail in
    let new = c.visit.new.trail in
    let idx = c.loop-index.index in
    let inv = c.loop-index.invariant in
    let e = c.in_ok-cause.ensures in
    let h : idx < length now = omega arith in
    let size = extends_length now new e.extends in
    let here = subst (λ (o : Option Cause). MatchOption o
    (IsVisited m a new (entry_at now idx).place) (λ d. Has m a (entry_at now idx).place d))
    c.in_default.is e.found in
    record {
      trail = e.trail;
      extends = extends_then c.args.trail.now now new inv.extends e.extends;
      within = omega (arith, h, size);
      visited = λ k l. elim (last_or_before k idx l) as (λ z. IsVisited m a new (entry_at new k).place) [
        | inl b ↦ visited_kept now new e.extends m a k (omega (arith, b, h)) (inv.visited k b)
        | inr b ↦ subst (λ j. IsVisited m a new (entry_at new j).place) (sym b)
            (subst (λ (x : Entry). IsVisited m a new x.place)
            (sym (extends_at now new e.extends idx h)) here)
      ];
    }
