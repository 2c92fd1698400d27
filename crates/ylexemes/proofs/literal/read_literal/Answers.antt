use Rattle.std.proofs.Common.{◌≡◌, ◌∷◌, sym}
use Rattle.ylexemes.proofs.Fronts.{first_is}
use Rattle.ylexemes.proofs.Made.{literal_part, literal_stuck, literal_short}
use Rattle.ylexemes.proofs.literal.read_literal.Goals.{After-split_at}
use Rattle.ylexemes.proofs.literal.read_literal.Goals as goal

quote : (c : After-split_at) → c.args.bytes.now ≡ 39 ∷ c.split_at.result.1.now
quote c = first_is 39 c.args.bytes.now c.split_at.result.1.now c.requires c.split_at.ensures.back

pub returns-in-Found : goal.returns-in-Found
returns-in-Found c =
    let e = quote (goal.at.returns-in-Found c).After-split_at in
    literal_part _ _ c.in-Found.rest.now c.in-Found.value e (sym c.in-Found.ensures)

pub returns-in-Stuck : goal.returns-in-Stuck
returns-in-Stuck c =
    let e = quote (goal.at.returns-in-Stuck c).After-split_at in
    literal_stuck _ _ e (sym c.in-Stuck.ensures)

pub returns-in-Short : goal.returns-in-Short
returns-in-Short c =
    let e = quote (goal.at.returns-in-Short c).After-split_at in
    literal_short _ _ e (sym c.in-Short.ensures)
