use Rattle.std.proofs.Common.{◌∙◌, ap, sym, subst}
use Rattle.ytables.specs.Tables.{TablesValue as Tables}
use Rattle.ymachine.specs.Machine.{Machine, symbols}
use Rattle.ymachine.specs.MachineOver.{machine_over}
use Rattle.ysession.specs.Expected.{SaysWithin}
use Rattle.ysession.specs.Session.{history_of, machine_of}
use Rattle.ysession.specs.States.{AreStates}
use Rattle.ysession.proofs.Settings.{machine_over_tables}
use Rattle.ysession.proofs.Trials.{says_in}
use Rattle.ysession.proofs.expected.outlook_running.Goals as goal

pub returns : goal.returns
returns c =
    let s = c.args.session.now in
    let h = history_of s in
    let token = c.args.token in
    let most = c.room_for-most.result in
    let are = subst (λ (t : Tables). AreStates t (symbols h.now.stack) c.args.states.now)
    (sym c.tables.ensures) c.requires.states in
    let same = ap machine_over c.tables.ensures ∙ machine_over_tables s in
    says_in (machine_of s) h token most c.in_ok-outlook.field-0.outlook c.room_for-most.ensures
    (subst (λ (m : Machine). SaysWithin m h.now token most c.in_ok-outlook.field-0.outlook) same
    (c.in_ok-outlook.ensures.says h.now c.requires.running are))
