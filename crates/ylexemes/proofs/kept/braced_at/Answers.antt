use Rattle.std.proofs.Common.{sym, subst}
use Rattle.ylexemes.specs.Front.{PartAt, lexeme}
use Rattle.ylexemes.specs.Lexemes.{braced}
use Rattle.ylexemes.proofs.Fronts.{first_is}
use Rattle.ylexemes.proofs.KeptTexts.{braced_shorter}
use Rattle.ylexemes.proofs.Made.{braced_part, braced_open}
use Rattle.ylexemes.proofs.kept.braced_at.Goals as goal

pub overflow_sub-bytes : goal.overflow_sub-bytes
overflow_sub-bytes c =
    braced_shorter c.args.bytes.now c.split_at.result.1.now c.in-Some.rest.now
    (first_is 123 c.args.bytes.now c.split_at.result.1.now c.requires c.split_at.ensures.back)
    (sym c.in-Some.ensures)

pub returns-in-None : goal.returns-in-None
returns-in-None c =
    braced_open c.args.bytes.now c.split_at.result.1.now
    (first_is 123 c.args.bytes.now c.split_at.result.1.now c.requires c.split_at.ensures.back)
    (sym c.in-None.ensures)

pub returns-in-Some : goal.returns-in-Some
returns-in-Some c =
    let part = braced_part c.args.bytes.now c.split_at.result.1.now c.in-Some.rest.now
    (first_is 123 c.args.bytes.now c.split_at.result.1.now c.requires
    c.split_at.ensures.back) (sym c.in-Some.ensures) in
    subst (λ t. PartAt c.args.bytes.now (lexeme (braced t)) c.in-Some.rest.now)
    (sym c.split_at-in-Some.ensures.front) part
