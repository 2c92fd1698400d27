use Rattle.ylalr.specs.Fronts.{AreFrontLinks}
use Rattle.ylalr.proofs.fronts.front_links.Given as goal

abbrev pub invariant-loop-r : goal.invariant-loop-r
invariant-loop-r l = AreFrontLinks l.grammar.bare l.passed l.r l.links
