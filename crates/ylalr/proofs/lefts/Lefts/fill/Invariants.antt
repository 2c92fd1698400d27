use Rattle.ylalr.proofs.LeftSteps.{Noting}
use Rattle.ylalr.proofs.lefts.Lefts.fill.Given as goal

abbrev pub invariant-loop-k : goal.invariant-loop-k
invariant-loop-k l = Noting l.grammar.bare l.items l.rows l.k l.self
