use Rattle.std.proofs.Common.{◌≡◌, ◌+◌, false, take}
use Rattle.std.specs.List.{list_any}
use Rattle.ycode.specs.Packing.{is_taken}
use Rattle.ycode.proofs.packing.Packing.meets.Given as goal

abbrev pub invariant-loop-t : goal.invariant-loop-t
invariant-loop-t l = list_any (λ t. is_taken l.self (l.d + t)) (take l.t-index l.columns) ≡ false
