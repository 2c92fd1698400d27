use Rattle.std.proofs.Common.{◌≤◌, ◌-◌, length}
use Rattle.ybitsets.specs.Limits.{most_states}
use Rattle.ylalr.specs.Finder.{FitFinder}
use Rattle.ylalr.specs.States.{IsSorted, RowsAre}
use Rattle.ylalr.proofs.collection.all_states.Given as goal

abbrev pub invariant-loop-alloc : goal.invariant-loop-alloc
invariant-loop-alloc l = record {
  fit : FitFinder l.grammar.bare l.finder;
  sorted : IsSorted l.grammar.bare.symbols l.kernels;
  within : length l.gotos ≤ length l.finder.states.closures;
  rows : RowsAre l.grammar.bare l.finder.states (length l.gotos) l.gotos;
}

abbrev pub decreases-loop-alloc : goal.decreases-loop-alloc
decreases-loop-alloc l = most_states - length l.gotos
