use Rattle.std.proofs.Common.{refl}
use Rattle.yembed.proofs.handles.opened.Goals as goal

pub returns-then-open-clause-opens : goal.returns-then-open-clause-opens
returns-then-open-clause-opens c = λ _. record {
  session = c.in-Ok.session;
  is = c.if-open.ensures.opened refl;
  begins = c.in-Ok.ensures.begins;
}

pub returns-else-open-clause-stays : goal.returns-else-open-clause-stays
returns-else-open-clause-stays c = c.if-open.ensures.stays refl
