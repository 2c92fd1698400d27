use Rattle.std.proofs.Common.{sym, refl, drop}
use Rattle.ylexemes.proofs.Fronts.{first_is}
use Rattle.ylexemes.proofs.Made.{comment_part, comment_open, slash_foreign}
use Rattle.ylexemes.proofs.front.comment_at.Goals as goal

pub returns-in-None : goal.returns-in-None
returns-in-None c = slash_foreign c.args.bytes.now (drop 1 c.args.bytes.now)
    (first_is 47 c.args.bytes.now (drop 1 c.args.bytes.now) c.requires refl) c.in-None.ensures

pub returns-in-None-after_pair : goal.returns-in-None-after_pair
returns-in-None-after_pair c = comment_open c.args.bytes.now c.in-Some.more.now c.in-Some.ensures
    (sym c.in-None-after_pair.ensures)

pub returns-in-Some-after_pair : goal.returns-in-Some-after_pair
returns-in-Some-after_pair c = comment_part c.args.bytes.now c.in-Some.more.now
    c.in-Some-after_pair.rest.now c.in-Some.ensures (sym c.in-Some-after_pair.ensures)
