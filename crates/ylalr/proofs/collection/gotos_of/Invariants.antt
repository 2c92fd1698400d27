use Rattle.std.proofs.Common.{◌≤◌, ◌-◌, length}
use Rattle.ylalr.specs.Finder.{FitFinder}
use Rattle.ylalr.specs.States.{Extends, Finds}
use Rattle.ylalr.proofs.GotoSteps.{Rowing}
use Rattle.ylalr.proofs.collection.gotos_of.Given as goal

abbrev pub invariant-loop-x : goal.invariant-loop-x
invariant-loop-x l = record {
  fit : FitFinder l.grammar.bare l.finder;
  extends : Extends l.initial.finder.states l.finder.states;
  until : l.x ≤ l.symbols;
  rowing : Rowing l.grammar.bare l.finder.states l.q l.x l.row;
  finds : Finds l.row (length l.initial.finder.states.closures) (length l.finder.states.closures);
}

abbrev pub decreases-loop-x : goal.decreases-loop-x
decreases-loop-x l = l.symbols - l.x
