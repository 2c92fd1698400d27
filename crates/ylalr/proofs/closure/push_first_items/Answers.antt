use Rattle.std.proofs.Common.{◌≡◌, ◌≤◌, subst, arith}
use Rattle.std.proofs.lemmas.Grind.{common_steps}
use Rattle.ylalr.proofs.ListSteps.{Opening, opening_skip, opening_push}
use Rattle.ylalr.proofs.closure.push_first_items.Goals as goal

pub loop-r-preserved-then-has : goal.loop-r-preserved-then-has
loop-r-preserved-then-has c =
    let i = c.loop-r.invariant in
    record {
      opening = opening_push c.args.wanted.now c.args.from c.loop-r.r c.args.items.now
          c.loop-r.items c.push.new.self i.after (c.has.ensures.0 c.if-has.true) i.opening
          c.in_ok-push.ensures;
      after = (let a = i.after in omega arith);
      until = (let t = c.loop-r-test.true in omega arith);
    }

pub loop-r-preserved : goal.loop-r-preserved
loop-r-preserved c =
    let i = c.loop-r.invariant in
    let f = c.after.ensures.further in
    let t = c.loop-r-test.true in
    let e = c.min-r.ensures in
    let le : c.loop-r.r ≤ c.min-r.result = grind (arith, common_steps) in
    let up : c.min-r.result ≤ c.after.result = grind (arith, common_steps) in
    record {
      opening = opening_skip c.args.wanted.now c.args.from c.loop-r.r c.min-r.result
          c.args.items.now c.loop-r.items le (λ k a b. c.after.ensures.none k a (omega arith))
          i.opening;
      after = (let a = i.after in omega arith);
      until = grind (arith, common_steps);
    }

pub returns-clause-exact : goal.returns-clause-exact
returns-clause-exact c =
    let u = c.loop-r.invariant.until in
    let e : c.loop-r.r ≡ c.args.to = omega arith in
    (subst (λ t. Opening c.args.wanted.now c.args.from t c.args.items.now c.loop-r.items) e
    c.loop-r.invariant.opening).exact
