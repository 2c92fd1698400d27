use Rattle.std.proofs.Common.{◌∙◌, ap}
use Rattle.ymachine.specs.Machine.{Configuration}
use Rattle.ysession.specs.Session.{history_of, machine_of}
use Rattle.ysession.proofs.Trials.{none_expected, not_running}
use Rattle.ysession.proofs.expected.outlook_at.Goals as goal

pub returns-in-Popping : goal.returns-in-Popping
returns-in-Popping c =
    let s = c.args.session.now in
    let mode = c.mode.ensures ∙ ap (λ (x : Configuration). x.mode) c.view.ensures in
    none_expected (machine_of s) (history_of s).now c.args.token
    (λ r. not_running c.mode.result c.in-Popping.is (mode ∙ r))
