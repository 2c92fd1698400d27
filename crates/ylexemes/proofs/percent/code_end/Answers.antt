use Rattle.std.proofs.Common.{sym}
use Rattle.ylexemes.proofs.Made.{code_part, code_open}
use Rattle.ylexemes.proofs.percent.code_end.Goals as goal

pub returns-in-None : goal.returns-in-None
returns-in-None c = code_open c.args.bytes.now c.args.more.now c.requires (sym c.in-None.ensures)

pub returns-in-Some : goal.returns-in-Some
returns-in-Some c = code_part c.args.bytes.now c.args.more.now c.in-Some.rest.now c.requires
    (sym c.in-Some.ensures)
