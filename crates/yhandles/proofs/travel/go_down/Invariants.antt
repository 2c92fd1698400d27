use Rattle.std.proofs.Common.{◌≡◌, ◌-◌}
use Rattle.ymachine.specs.Past.{back_by}
use Rattle.ysession.specs.Session.{history_of, setting_of}
use Rattle.yhandles.proofs.travel.go_down.Given as goal

-- what the remaining undos leave is what all leave
abbrev pub invariant-loop-i : goal.invariant-loop-i
invariant-loop-i l = record {
  setting : setting_of l.session ≡ setting_of l.initial.session;
  downs : back_by (l.count - l._i) (history_of l.session)
      ≡ back_by l.count (history_of l.initial.session);
}
