use Rattle.std.proofs.Common.{◌≤◌}
use Rattle.ylalr.proofs.ListSteps.{Merging}
use Rattle.ylalr.proofs.closure.merge.Given as goal

abbrev pub invariant-loop-item : goal.invariant-loop-item
invariant-loop-item l = record {
  merging : Merging l.wanted l.kernel l.item-index l.at l.items;
  within : l.at ≤ l.rules;
}
