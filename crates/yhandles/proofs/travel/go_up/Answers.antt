use Rattle.std.proofs.Common.{◌∙◌, arith}
use Rattle.ysession.proofs.Settings.{same_machine}
use Rattle.ysession.specs.Session.{machine_of, history_of}
use Rattle.yhandles.proofs.Travels.{leads_on, leads_off}
use Rattle.yhandles.proofs.travel.go_up.Goals as goal

pub returns-in-Err-clause-ups : goal.returns-in-Err-clause-ups
returns-in-Err-clause-ups c =
    let inv = c.loop-i.invariant in
    leads_off (machine_of c.args.session.now) _ c.args.count c.loop-i._i _ _ _ c.in-Err.fault
    (omega arith) (same_machine inv.setting) inv.leads c.in-Err.ensures.steps

pub loop-i-preserved : goal.loop-i-preserved
loop-i-preserved c =
    let inv = c.loop-i.invariant in
    record {
      setting = c.in-Ok.ensures.setting ∙ inv.setting;
      leads = leads_on (machine_of c.args.session.now) _ c.args.count c.loop-i._i _ _
          (history_of c.step.new.self) c.in-Ok.field-0 (omega arith) (same_machine inv.setting)
          inv.leads c.in-Ok.ensures.steps;
    }
