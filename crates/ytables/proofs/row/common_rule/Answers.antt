use Rattle.std.proofs.Common.{get_or}
use Rattle.ytables.specs.declared.cell.Action.TheVariants.{Shift}
use Rattle.ytables.proofs.RowSteps.{no_common, breaks_all, breaks_other}
use Rattle.ytables.proofs.row.common_rule.Goals as goal

pub returns-in_default : goal.returns-in_default
returns-in_default c =
    let xs = c.args.actions.now in
    let i = c.loop-action.action-index in
    no_common c.loop-action.found xs i (Shift 0) c.loop-action-test.true c.loop-action.invariant
    c.in_default.not-Error-0 (breaks_other c.loop-action.found (get_or xs i (Shift 0))
    c.in-Reduce-Some.r c.in-Reduce-Some.s c.in-Reduce-Some.is-1 c.in-Reduce-Some.is-0
    c.if-r-s.false)

pub returns-in_default-2 : goal.returns-in_default-2
returns-in_default-2 c =
    let xs = c.args.actions.now in
    let i = c.loop-action.action-index in
    no_common c.loop-action.found xs i (Shift 0) c.loop-action-test.true c.loop-action.invariant
    c.in_default.not-Error-0 (breaks_all c.loop-action.found (get_or xs i (Shift 0))
    c.in_default.not-Reduce-0)
