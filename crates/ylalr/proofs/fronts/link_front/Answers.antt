use Rattle.std.proofs.Common.{◌<◌, ◌+◌, length, sym, ◌∙◌, get_or, arith, rules}
use Rattle.std.proofs.lemmas.Grind.{common_steps}
use Rattle.std.proofs.lemmas.List.Elements.{All-get_or, All-more}
use Rattle.ybitsets.specs.Marks.{Has}
use Rattle.ylalr.proofs.FrontSteps.{AddsBelow, below_none, below_push, front_all, front_until}
use Rattle.ylalr.proofs.fronts.link_front.Goals.{After-has}
use Rattle.ylalr.proofs.fronts.link_front.Goals as goal

pub loop-s-init : goal.loop-s-init
loop-s-init c = record {
  sized = search rules;
  passed = search rules;
  adds =
      below_none c.args.form.now c.args.to c.args.links.now;
}

-- one more symbol of the form is linked
added : (c : After-has) → AddsBelow c.args.form.now (c.loop-s.s-index + 1) c.args.to
    c.args.links.now c.push.new.self
added c =
    let i = c.loop-s.invariant in
    let x = c.args.form.now in
    let k = c.loop-s.s-index in
    let z = All-get_or (λ s. s < length c.args.links.now) x k 0 c.loop-s-test.true
    c.requires.form in
    below_push x k c.args.to c.args.links.now c.loop-s.links c.push.new.self i.adds
    (omega (arith, i.sized, z)) c.in_ok-push.ensures

pub returns-then-not-has-clause-adds : goal.returns-then-not-has-clause-adds
returns-then-not-has-clause-adds c =
    let n = c.args.passed.now in
    let x = c.args.form.now in
    let k = c.loop-s.s-index in
    front_until n x k c.args.to c.args.links.now c.push.new.self c.loop-s-test.true
    c.loop-s.invariant.passed (λ (m : Has n (get_or x k 0)). cc)
    (added (goal.at.returns-then-not-has-clause-adds c).After-has)

pub loop-s-preserved : goal.loop-s-preserved
loop-s-preserved c = record {
  sized = grind (arith, common_steps);
  passed = All-more (Has c.args.passed.now) c.args.form.now c.loop-s.s-index 0
      c.loop-s-test.true c.loop-s.invariant.passed (sym c.has.ensures ∙ c.if-not-has.false);
  adds = added (goal.at.loop-s-preserved c).After-has;
}

pub returns-clause-adds : goal.returns-clause-adds
returns-clause-adds c =
    let i = c.loop-s.invariant in
    front_all c.args.passed.now c.args.form.now c.loop-s.s-index c.args.to c.args.links.now
    c.loop-s.links (omega arith) i.passed i.adds
