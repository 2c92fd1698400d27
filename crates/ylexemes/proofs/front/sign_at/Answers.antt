use Rattle.std.proofs.Common.{sym, subst}
use Rattle.ylexemes.specs.Front.{PartAt, lexeme}
use Rattle.ylexemes.specs.Lexemes.{fixed}
use Rattle.ylexemes.proofs.Fronts.{c_identifier_is}
use Rattle.ylexemes.proofs.Made.{sign_part, other_foreign}
use Rattle.ylexemes.proofs.front.sign_at.Goals as goal

pub returns-in-Some : goal.returns-in-Some
returns-in-Some c =
    subst (λ z. PartAt z (lexeme (fixed c.in-Some.sign)) c.split_at.result.1.now)
    (sym (c_identifier_is c.args.bytes.now c.split_at.result.1.now c.requires.some
    c.split_at.ensures.back))
    (sign_part _ c.in-Some.sign c.split_at.result.1.now (sym c.in-Some.ensures))

pub returns-in-None : goal.returns-in-None
returns-in-None c =
    other_foreign c.args.bytes.now c.requires.lone (sym c.in-None.ensures)
