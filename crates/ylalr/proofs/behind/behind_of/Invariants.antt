use Rattle.ylalr.specs.Behind.{BehindTo}
use Rattle.ylalr.proofs.behind.behind_of.Given as goal

abbrev pub invariant-loop-r : goal.invariant-loop-r
invariant-loop-r l = BehindTo l.grammar.bare l.nullable l.first l.r l.rows l.vanishing
