use Rattle.std.proofs.Common.{◌≡◌, map}
use Rattle.std.specs.List.{range_with_len}
use Rattle.ytables.specs.Tables.{action_at}
use Rattle.ycode.specs.States.{rule_in}
use Rattle.ycode.proofs.policy.reductions_of.Given as goal

abbrev pub invariant-loop-t : goal.invariant-loop-t
invariant-loop-t l = l.rules.items ≡
    map (λ t. rule_in (action_at l.tables l.q t)) (range_with_len 0 l.t)
