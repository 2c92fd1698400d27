use Rattle.std.proofs.Common.{sym, subst, arith}
use Rattle.ytables.specs.declared.cell.Action.{Action}
use Rattle.ymachine.specs.MachineOver.{machine_over}
use Rattle.ysession.specs.declared.expected.Outlook.{Outlook}
use Rattle.ysession.specs.Expected.{Shows}
use Rattle.ysession.specs.States.{IsStep}
use Rattle.ysession.proofs.Trials.{tries_on, by_taking, by_error, by_limit}
use Rattle.ysession.proofs.expected.tried.Goals.{in-Shift, in-Error}
use Rattle.ysession.proofs.expected.tried.Goals as goal

pub loop-reductions-preserved : goal.loop-reductions-preserved
loop-reductions-preserved c = λ first g.
    let t = c.args.tables.now in
    let l = c.loop-reductions in
    let r = l.invariant first g in
    let new = c.act.new.states.items in
    tries_on t first c.args.token l.reductions l.states.items r c.in-Reduce.field-0 new
    (subst (λ (a : Action). IsStep t r.at c.args.token a new) c.in-Reduce.is
    (c.in_ok-act.ensures r.at r.goes))

pub returns-in-loop-reductions-clause-shows : goal.returns-in-loop-reductions-clause-shows
returns-in-loop-reductions-clause-shows c = λ first g.
    let t = c.args.tables.now in
    let token = c.args.token in
    let l = c.loop-reductions in
    let r = l.invariant first g in
    let new = c.act.new.states.items in
    let step = c.in_ok-act.ensures r.at r.goes in
    let Is : Outlook → Type 0 = λ outlook. Shows (machine_over t) first token c.args.most outlook in
    elim c.match-branch-2.branch [
      | in-Shift w ↦
          subst Is (sym w.outlook-is)
          (by_taking t first token l.reductions l.states.items r c.args.most c.in_ok-act.field-0 new
          c.loop-reductions-test.true w.in-Shift.is step)
      | in-Error w ↦
          subst Is (sym w.outlook-is)
          (by_error t first token l.reductions l.states.items r c.args.most new
          c.loop-reductions-test.true
          (subst (λ (a : Action). IsStep t r.at token a new) w.in-Error.is step))
    ]

pub returns-clause-shows : goal.returns-clause-shows
returns-clause-shows c = λ first g.
    let l = c.loop-reductions in
    by_limit c.args.tables.now first c.args.token l.reductions l.states.items (l.invariant first g)
    c.args.most
    (let h = c.loop-reductions-test.false in let i = l.auto.reductions-end in omega (arith, h, i))
