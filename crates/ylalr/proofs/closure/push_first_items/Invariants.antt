use Rattle.std.proofs.Common.{◌≤◌, ◌-◌}
use Rattle.ylalr.proofs.ListSteps.{Opening}
use Rattle.ylalr.proofs.closure.push_first_items.Given as goal

abbrev pub invariant-loop-r : goal.invariant-loop-r
invariant-loop-r l = record {
  opening : Opening l.wanted l.from l.r l.initial.items l.items;
  after : l.from ≤ l.r;
  until : l.r ≤ l.to;
}

abbrev pub decreases-loop-r : goal.decreases-loop-r
decreases-loop-r l = l.to - l.r
