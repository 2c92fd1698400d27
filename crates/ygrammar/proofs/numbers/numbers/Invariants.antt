use Rattle.ygrammar.proofs.NumberSteps.{SoFar}
use Rattle.ygrammar.proofs.numbers.numbers.Given as goal

abbrev pub invariant-loop-one : goal.invariant-loop-one
invariant-loop-one l = SoFar l.own l.given.items l.one-index l.cursor
