use Rattle.std.proofs.Common.{refl, codes, arith, ◌∷◌, []}
use Rattle.std.proofs.lemmas.Result.{IfOk-weaker}
use Rattle.ygenerate.specs.Arguments.{yacc_app, required_argument, short_flag, short_option}
use Rattle.ygenerate.proofs.Required.{given, with_argument}
use Rattle.ygenerate.proofs.arguments.yacc_command.Goals as goal

pub returns-clause-app : goal.returns-clause-app
unfolding yacc_app
returns-clause-app c =
    IfOk-weaker c.arg-3.result _ _ (λ command added.
    with_argument (with_argument (with_argument c.new_command.ensures.app c.in_ok-arg.ensures
    c.verbose_flag.ensures) c.in_ok-arg-2.ensures c.prefix_argument.ensures) added
    c.grammar_argument.ensures) c.arg-3.ensures

pub returns-clause-given : goal.returns-clause-given
returns-clause-given c =
    let x = c.verbose_flag.result in
    let z_is = c.grammar_argument.ensures in
    IfOk-weaker c.arg-3.result _ _ (λ command added m parsed.
    given (codes "yacc") c.new_command.result command
    (short_flag (codes "verbose") 118 ∷ short_option (codes "prefix") 98
    ∷ required_argument (codes "grammar") ∷ [])
    (x ∷ c.prefix_argument.result ∷ c.grammar_argument.result ∷ []) c.new_command.ensures
    (c.verbose_flag.ensures, (c.prefix_argument.ensures, (z_is, tt)))
    (refl, refl, (refl, refl, (refl, refl, tt))) (
      c.in_ok-arg.field-0,
      c.in_ok-arg.ensures,
      (c.in_ok-arg-2.field-0, c.in_ok-arg-2.ensures, (command, added, refl)),
    )
    m parsed 2 x (codes "grammar") (omega arith) z_is) c.arg-3.ensures
