use Rattle.std.proofs.Common.{◌≡◌, true}
use Rattle.std.specs.List.{list_all, range_with_len}
use Rattle.ycode.specs.Policies.{permits}
use Rattle.ycode.proofs.policy.permits_all.Given as goal

abbrev pub invariant-loop-t : goal.invariant-loop-t
invariant-loop-t l = list_all (permits l.policy l.tables l.q l.rule) (range_with_len 0 l.t) ≡ true
