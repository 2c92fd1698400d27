use Rattle.yprovenance.proofs.SettledSteps.{IsTallyTo}
use Rattle.yprovenance.proofs.settled.tally_of.Given as goal

abbrev pub invariant-loop-rival : goal.invariant-loop-rival
invariant-loop-rival l = IsTallyTo l.shifts l.rivals l.rival-index l.tally
