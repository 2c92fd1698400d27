use Rattle.std.proofs.Common.{◌≡◌, take, false}
use Rattle.ytables.specs.Tables.{has_before}
use Rattle.yprovenance.proofs.shift.is_before.Given as goal

abbrev pub invariant-loop-item : goal.invariant-loop-item
invariant-loop-item l = has_before l.grammar.bare (take l.item-index l.items) l.s ≡ false
