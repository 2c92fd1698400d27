use Rattle.ygrammar.proofs.NumberSteps.{Holding}
use Rattle.ygrammar.proofs.holders.own_holders.Given as goal

abbrev pub invariant-loop-token : goal.invariant-loop-token
invariant-loop-token l = Holding l.fn.count l.own l.holders.items l.token
