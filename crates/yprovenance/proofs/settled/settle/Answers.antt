use Rattle.std.proofs.Common.{◌∙◌}
use Rattle.yprovenance.proofs.SettledSteps.{settled_is}
use Rattle.yprovenance.proofs.settled.settle.Goals as goal

pub returns : goal.returns
returns c class h =
    c.settle.ensures ∙ settled_is c.args.shift c.args.rivals.now c.tally_of.result c.is_some.result
    c.is_some.ensures c.tally_of.ensures class h
