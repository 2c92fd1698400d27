use Rattle.std.proofs.Common.{refl}
use Rattle.yembed.proofs.handles.sulderko_open.Goals as goal

pub returns-in-Ok-clause-opens : goal.returns-in-Ok-clause-opens
returns-in-Ok-clause-opens c = λ _. c.in-Ok.ensures.opens refl
