use Rattle.std.proofs.Common.{ℕ, ◌∙◌, List, Option, None, ap, get_or, sym, arith}
use Rattle.ycode.proofs.PolicySteps.{reduction_fits}
use Rattle.ycode.proofs.policy.rule_of.Goals as goal

pub commonest-requires : goal.commonest-requires
commonest-requires c = λ i n e.
    (let a = c.requires.sizes in
    let b = (reduction_fits c.args.tables.now c.args.sizes.now a c.args.q c.requires.state i n
    (ap (λ (x : List (Option ℕ)). get_or x i None)
    (sym (c.deref.ensures.value ∙ c.in_ok-rules.ensures)) ∙ e)).1 in
    let r = a.rules in omega (arith, b, r))
