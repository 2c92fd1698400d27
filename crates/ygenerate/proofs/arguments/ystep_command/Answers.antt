use Rattle.std.proofs.Common.{refl, codes, arith, ◌∷◌, []}
use Rattle.std.proofs.lemmas.Result.{IfOk-weaker}
use Rattle.ygenerate.specs.Arguments.{ystep_app, required_argument}
use Rattle.ygenerate.proofs.Required.{given, with_argument}
use Rattle.ygenerate.proofs.arguments.ystep_command.Goals as goal

pub returns-clause-app : goal.returns-clause-app
unfolding ystep_app
returns-clause-app c =
    IfOk-weaker c.arg-2.result _ _ (λ command added.
    with_argument (with_argument c.new_command.ensures.app c.in_ok-arg.ensures
    c.grammar_argument.ensures) added c.tokens_argument.ensures) c.arg-2.ensures

pub returns-clause-both : goal.returns-clause-both
returns-clause-both c =
    let x = c.grammar_argument.result in
    let x_is = c.grammar_argument.ensures in
    let y_is = c.tokens_argument.ensures in
    IfOk-weaker c.arg-2.result _ _ (λ command added m parsed.
    let value = given (codes "ystep") c.new_command.result command
    (required_argument (codes "grammar") ∷ required_argument (codes "tokens") ∷ [])
    (x ∷ c.tokens_argument.result ∷ []) c.new_command.ensures (x_is, (y_is, tt))
    (refl, refl, (refl, refl, tt))
    (c.in_ok-arg.field-0, c.in_ok-arg.ensures, (command, added, refl)) m parsed in (
      value 0 x (codes "grammar") (omega arith) x_is,
      value 1 x (codes "tokens") (omega arith) y_is,
    )) c.arg-2.ensures
