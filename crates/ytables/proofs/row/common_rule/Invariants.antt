use Rattle.std.proofs.Common.{◌≡◌, [], take, MatchOption}
use Rattle.std.specs.List.{filter}
use Rattle.ytables.specs.Cell.{is_filled}
use Rattle.ytables.specs.Rows.{ReduceBy}
use Rattle.ytables.proofs.row.common_rule.Given as goal

abbrev pub invariant-loop-action : goal.invariant-loop-action
invariant-loop-action l = MatchOption l.found (filter is_filled (take l.action-index l.actions) ≡
    []) (λ r. ReduceBy r (filter is_filled (take l.action-index l.actions)))
