use Rattle.std.proofs.Common.{◌≡◌, map}
use Rattle.std.specs.List.{range_with_len}
use Rattle.ycode.specs.Combs.{AreAtMost}
use Rattle.ycode.specs.Targets.{gotos_over}
use Rattle.ycode.specs.Usual.{most_usual}
use Rattle.ycode.proofs.targets.usual_targets.Given as goal

abbrev pub invariant-loop-x : goal.invariant-loop-x
invariant-loop-x l = record {
  list : l.usual.items ≡ map (λ x. most_usual (gotos_over l.tables x)) (range_with_len 0 l.x);
  most : AreAtMost l.sizes.states l.usual.items;
}
