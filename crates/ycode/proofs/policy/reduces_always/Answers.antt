use Rattle.std.proofs.Common.{ℕ, ◌≡◌, ◌<◌, ◌∙◌, arith, sym, ap}
use Rattle.std.specs.List.{list_all, range_with_len}
use Rattle.ytables.specs.Cell.{is_reduce}
use Rattle.ycode.specs.Policies.{act_at}
use Rattle.ycode.specs.States.{tokens_of}
use Rattle.ycode.proofs.PolicySteps.{all_more, all_fails}
use Rattle.ycode.proofs.policy.reduces_always.Goals as goal

pub loop-t-preserved : goal.loop-t-preserved
loop-t-preserved c = all_more (λ t. is_reduce c.args.rule
    (act_at c.args.policy c.args.tables.now c.args.q t))
    c.loop-t.t c.loop-t.invariant (sym (c.reduces_by.ensures ∙ ap (is_reduce c.args.rule) c.act_at.ensures) ∙ c.if-not-reduces_by.false)

pub returns-then-not-reduces_by : goal.returns-then-not-reduces_by
returns-then-not-reduces_by c =
    let l : c.loop-t.t < tokens_of c.args.tables.now = (let t = c.loop-t-test.true in
    let s = c.requires.sizes.tokens in omega (arith, t, s)) in
    sym (all_fails (λ t. is_reduce c.args.rule
    (act_at c.args.policy c.args.tables.now c.args.q t))
    (tokens_of c.args.tables.now) c.loop-t.t l (sym (c.reduces_by.ensures ∙ ap (is_reduce c.args.rule) c.act_at.ensures) ∙ c.if-not-reduces_by.true))

pub returns : goal.returns
returns c =
    let e : c.loop-t.t ≡ tokens_of c.args.tables.now = (let t = c.loop-t-test.false in
    let u = c.loop-t.auto.t-end in let s = c.requires.sizes.tokens in omega (arith, t, u, s)) in
    sym (ap (λ (n : ℕ). list_all (λ t. is_reduce c.args.rule
    (act_at c.args.policy c.args.tables.now c.args.q t))
    (range_with_len 0 n)) (sym e) ∙ c.loop-t.invariant)
