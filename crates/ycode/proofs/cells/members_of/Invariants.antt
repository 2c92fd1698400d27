use Rattle.std.proofs.Common.{◌≡◌, map}
use Rattle.std.specs.List.{range_with_len}
use Rattle.ytables.specs.Cell.{is_reduce}
use Rattle.ycode.specs.Policies.{act_at}
use Rattle.ycode.proofs.cells.members_of.Given as goal

abbrev pub invariant-loop-t : goal.invariant-loop-t
invariant-loop-t l = l.members.items ≡
    map (λ t. is_reduce l.usual (act_at l.policy l.tables l.q t)) (range_with_len 0 l.t)
