use Rattle.std.proofs.Common.{ap, arith}
use Rattle.std.proofs.lemmas.Grind.{common_steps}
use Rattle.ymachine.specs.Past.{position}
use Rattle.ymachine.proofs.Pasts.{length-states_before}
use Rattle.ymachine.proofs.journal.Journal.position.Goals as goal

pub returns-clause-position : goal.returns-clause-position
returns-clause-position g c =
    let l = length-states_before g.M.Reversible.before g.M.Reversible.kind c.self.inside.machine
    c.self.inside.changes.items in
    let e = ap position c.self.view_is in
    grind (arith, common_steps, l, e)
