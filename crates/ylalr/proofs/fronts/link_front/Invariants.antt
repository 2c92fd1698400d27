use Rattle.std.proofs.Common.{◌≡◌, length, take}
use Rattle.std.specs.List.{All}
use Rattle.ybitsets.specs.Marks.{Has}
use Rattle.ylalr.proofs.FrontSteps.{AddsBelow}
use Rattle.ylalr.proofs.fronts.link_front.Given as goal

abbrev pub invariant-loop-s : goal.invariant-loop-s
invariant-loop-s l = record {
  sized : length l.links ≡ length l.initial.links;
  passed : All (Has l.passed) (take l.s-index l.form);
  adds : AddsBelow l.form l.s-index l.to l.initial.links l.links;
}
