use Rattle.std.proofs.Common.{arith}
use Rattle.std.proofs.lemmas.Grind.{common_steps}
use Rattle.std.proofs.lemmas.Option.{gets}
use Rattle.ysession.specs.Session.{history_of}
use Rattle.ysession.proofs.Changed.{kind_found}
use Rattle.ysession.proofs.session.Session.kind_at.Goals as goal

pub returns : goal.returns
unfolding history_of
returns c =
    let e = kind_found c.changes.result.now c.args.self.now.journal c.args.index
    c.changes.ensures.kinds in
    grind (arith, common_steps, gets, e)
