use Rattle.std.proofs.Common.{ℕ, ◌∙◌, List, Option, None, ap, get_or, sym, arith}
use Rattle.ycode.proofs.PolicySteps.{reduction_fits}
use Rattle.ycode.proofs.ReadSteps.{usual_default}
use Rattle.ycode.proofs.cells.usual_of.Goals as goal

pub returns-in-Some : goal.returns-in-Some
returns-in-Some c = usual_default c.args.policy c.args.tables.now c.args.sizes.now c.requires.sizes
    c.args.q c.in-Some.rule c.requires.state (sym c.requires.rule ∙ c.in-Some.is)

pub most_usual-requires : goal.most_usual-requires
most_usual-requires c = λ i n e.
    (let a = c.requires.sizes in
    let b = (reduction_fits c.args.tables.now c.args.sizes.now a c.args.q c.requires.state i n
    (ap (λ (x : List (Option ℕ)). get_or x i None)
    (sym (c.deref.ensures.value ∙ c.in_ok-rules.ensures)) ∙ e)).1 in
    let r = a.rules in omega (arith, b, r))
