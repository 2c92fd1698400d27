use Rattle.std.proofs.Common.{◌≡◌, ◌∙◌, ap, subst, sym, arith, false, true, IfErr}
use Rattle.std.proofs.lemmas.Result.{err_from_is_err_and}
use Rattle.ylalr.specs.declared.fault.BuildFault.{BuildFault}
use Rattle.ylalr.specs.declared.fault.BuildFault.TheVariants.{Memory, TooManySets}
use Rattle.ylalr.specs.Collection.{TooMany}
use Rattle.ylalr.proofs.WholeSteps.{has_states}
use Rattle.ylalr.proofs.automaton.build.Goals as goal

pub returns-clause-states : goal.returns-clause-states
returns-clause-states c =
    let P = c.in_ok-lr0.lr0 in
    let fit = c.in_ok-lr0.ensures.fit in
    has_states P.grammar fit.well_formed P.states P.gotos fit.states fit.gotos fit.counted fit.few

false_true : false ≡ true → ⊥
false_true h = grind (arith)

-- that memory ran out is not the other fault
other : (b : BuildFault) → b ≡ Memory → b ≡ TooManySets → ⊥
other b e f = false_true (ap (λ (x : BuildFault). elim x [ Memory ↦ false | TooManySets ↦ true ])
    (sym e ∙ f))

pub returns-in_err-looks-clause-too_many : goal.returns-in_err-looks-clause-too_many
returns-in_err-looks-clause-too_many c =
    let is = err_from_is_err_and c.from_residual-in_err-looks.result
    c.from_residual-in_err-looks.ensures.1 in
    subst (λ (r : _). IfErr r (λ e. e ≡ TooManySets → TooMany c.args.grammar.bare)) (sym is.1)
    (λ q. absurd (other is.0 is.2 q))
