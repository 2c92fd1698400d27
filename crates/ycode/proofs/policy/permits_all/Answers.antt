use Rattle.std.proofs.Common.{ℕ, ◌≡◌, ◌<◌, ◌∙◌, arith, sym, ap}
use Rattle.std.specs.List.{list_all, range_with_len}
use Rattle.ycode.specs.Policies.{permits}
use Rattle.ycode.specs.States.{tokens_of}
use Rattle.ycode.proofs.PolicySteps.{all_more, all_fails}
use Rattle.ycode.proofs.policy.permits_all.Goals as goal

pub loop-t-preserved : goal.loop-t-preserved
loop-t-preserved c = all_more (permits c.args.policy c.args.tables.now c.args.q c.args.rule)
    c.loop-t.t c.loop-t.invariant (sym c.permits.ensures ∙ c.if-not-permits.false)

pub returns-then-not-permits : goal.returns-then-not-permits
returns-then-not-permits c =
    let l : c.loop-t.t < tokens_of c.args.tables.now = (let t = c.loop-t-test.true in
    let s = c.requires.sizes.tokens in omega (arith, t, s)) in
    sym (all_fails (permits c.args.policy c.args.tables.now c.args.q c.args.rule)
    (tokens_of c.args.tables.now) c.loop-t.t l (sym c.permits.ensures ∙ c.if-not-permits.true))

pub returns : goal.returns
returns c =
    let e : c.loop-t.t ≡ tokens_of c.args.tables.now = (let t = c.loop-t-test.false in
    let u = c.loop-t.auto.t-end in let s = c.requires.sizes.tokens in omega (arith, t, u, s)) in
    sym (ap (λ (n : ℕ). list_all (permits c.args.policy c.args.tables.now c.args.q c.args.rule)
    (range_with_len 0 n)) (sym e) ∙ c.loop-t.invariant)
