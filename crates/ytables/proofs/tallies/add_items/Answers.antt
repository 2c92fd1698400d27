use Rattle.std.proofs.Common.{◌≡◌, ◌+◌, ◌<◌, ◌≤◌, List, length, get_or, sym, ap, ◌∙◌, subst, arith}
use Rattle.ysymbols.specs.Grammar.{GrammarValue, most_rules}
use Rattle.ylalr.specs.declared.items.Item.{Item}
use Rattle.ylalr.specs.Collection.{state_of}
use Rattle.ytables.specs.Tables.{is_ready}
use Rattle.ytables.proofs.TalliesSteps.{Tallied, tallied_yes, tallied_no, tallied_all, tallied_few}
use Rattle.ytables.proofs.tallies.add_items.Goals.{then-is_ready, else-is_ready}
use Rattle.ytables.proofs.tallies.add_items.Goals as goal

pub loop-index-preserved : goal.loop-index-preserved
loop-index-preserved c =
    let m = c.args.automaton.now in
    let n = c.loop-index.index in
    let d : Item = record { rule = 0; dot = 0 } in
    let within : n < length (state_of m c.args.q) = (let e = ap length c.items-items.ensures in
    let t = c.loop-index-test.true in omega (arith, e, t)) in
    let ready : c.is_ready.result ≡ is_ready m.grammar.bare (get_or (state_of m c.args.q) n d) = c.is_ready.ensures ∙ ap (λ (v : GrammarValue). is_ready v.bare
    (get_or c.items-items.result.now n d)) c.grammar-grammar.ensures ∙ ap
    (λ (l : List Item). is_ready m.grammar.bare (get_or l n d)) c.items-items.ensures in
    elim c.if-is_ready.branch [
      | then-is_ready w ↦ subst (Tallied m c.args.q (n + 1) c.args.levels.now) (sym w.tallies-is)
          (tallied_yes m c.args.q n d c.args.levels.now c.loop-index.tallies w.add_item.new.tallies
          within (sym ready ∙ w.if-is_ready.true) w.add_item.ensures.len w.add_item.ensures.adds
          c.states-guide.ensures.guide c.loop-index.invariant)
      | else-is_ready w ↦ subst (Tallied m c.args.q (n + 1) c.args.levels.now) (sym w.tallies-is)
          (tallied_no m c.args.q n d c.args.levels.now c.loop-index.tallies within
          (sym ready ∙ w.if-is_ready.false) c.loop-index.invariant)
    ]

pub returns-clause-small : goal.returns-clause-small
returns-clause-small c =
    let m = c.args.automaton.now in
    let states = c.states-guide.ensures.states in
    let all : length (state_of m c.args.q) ≤ c.loop-index.index = (let e = ap length c.items-items.ensures in
    let t = c.loop-index-test.false in omega (arith, e, t)) in
    tallied_few m c.args.q c.loop-index.index c.args.levels.now c.loop-index.tallies all
    c.loop-index.invariant (states.range c.args.q c.requires.state)
    (states.ordered c.args.q c.requires.state) (subst (λ (v : GrammarValue). length v.bare.rules ≤ most_rules) c.grammar-grammar.ensures
    c.symbols-well_formed.ensures.well_formed.few) c.states-guide.ensures.guide

pub returns-clause-tallies : goal.returns-clause-tallies
returns-clause-tallies c =
    let m = c.args.automaton.now in
    let all : length (state_of m c.args.q) ≤ c.loop-index.index = (let e = ap length c.items-items.ensures in
    let t = c.loop-index-test.false in omega (arith, e, t)) in
    λ u h t l. tallied_all m c.args.q c.loop-index.index c.args.levels.now c.loop-index.tallies all
    c.loop-index.invariant u h t (subst (λ x. t < x) (c.requires.tallies ∙ sym c.requires.levels) l)
