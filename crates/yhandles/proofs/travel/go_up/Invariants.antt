use Rattle.std.proofs.Common.{◌≡◌, ◌-◌}
use Rattle.ysession.specs.Session.{machine_of, history_of, setting_of}
use Rattle.yhandles.proofs.Travels.{Leads}
use Rattle.yhandles.proofs.travel.go_up.Given as goal

-- whatever the remaining steps lead to, all lead to
abbrev pub invariant-loop-i : goal.invariant-loop-i
invariant-loop-i l = record {
  setting : setting_of l.session ≡ setting_of l.initial.session;
  leads : Leads (machine_of l.initial.session) l.count (history_of l.initial.session)
      (l.count - l._i) (history_of l.session);
}
