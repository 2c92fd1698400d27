use Rattle.ylexemes.proofs.Made.{mark_part}
use Rattle.ylexemes.proofs.percent.percent_at.Goals as goal

pub returns-in-Some : goal.returns-in-Some
returns-in-Some c = mark_part c.args.bytes.now c.in-Some.rest.now c.in-Some.ensures
