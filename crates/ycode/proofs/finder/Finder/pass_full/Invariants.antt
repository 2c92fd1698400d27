use Rattle.std.proofs.Common.{◌-◌, length}
use Rattle.ycode.specs.Finder.{KnowsOf}
use Rattle.ycode.proofs.finder.Finder.pass_full.Given as goal

abbrev pub invariant-loop-self : goal.invariant-loop-self
invariant-loop-self l = KnowsOf l.packing l.self

abbrev pub decreases-loop-self : goal.decreases-loop-self
decreases-loop-self l = length l.packing.checks - l.self.full
