use Rattle.ytables.proofs.TalliesSteps.{Tallied}
use Rattle.ytables.proofs.tallies.add_items.Given as goal

abbrev pub invariant-loop-index : goal.invariant-loop-index
invariant-loop-index l = Tallied l.automaton l.q l.index l.levels l.tallies
