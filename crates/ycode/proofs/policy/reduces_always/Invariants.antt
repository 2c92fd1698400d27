use Rattle.std.proofs.Common.{◌≡◌, true}
use Rattle.std.specs.List.{list_all, range_with_len}
use Rattle.ytables.specs.Cell.{is_reduce}
use Rattle.ycode.specs.Policies.{act_at}
use Rattle.ycode.proofs.policy.reduces_always.Given as goal

abbrev pub invariant-loop-t : goal.invariant-loop-t
invariant-loop-t l = list_all (λ t. is_reduce l.rule (act_at l.policy l.tables l.q t)) (range_with_len 0 l.t) ≡ true
