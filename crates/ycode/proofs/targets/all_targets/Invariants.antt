use Rattle.ycode.specs.Targets.{AreTargets}
use Rattle.ycode.proofs.targets.all_targets.Given as goal

abbrev pub invariant-loop-x : goal.invariant-loop-x
invariant-loop-x l = AreTargets l.tables l.x l.usual.items l.rows.items
