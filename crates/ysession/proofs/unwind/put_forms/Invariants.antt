use Rattle.std.proofs.Common.{ℕ, ◌≡◌, ◌+◌, ◌++◌, List, length, flat_map, true}
use Rattle.ylink.specs.Sends.{Sends}
use Rattle.ymachine.specs.Past.{position, back_by}
use Rattle.ysession.specs.Session.{setting_of, machine_of, history_of, later_of}
use Rattle.ymachine.specs.Unwinding.{forms_of, forms_before, form_line}
use Rattle.ysession.proofs.unwind.put_forms.Given as goal

-- the lines of the forms so far were sent, and what is left are those of the steps that stand
abbrev pub invariant-loop-kind : goal.invariant-loop-kind
invariant-loop-kind g l = record {
  setting : setting_of l.session ≡ setting_of l.fn.session;
  steps : ℕ;
  left : history_of l.session ≡ back_by steps (history_of l.fn.session);
  count : steps + position (history_of l.session) ≡ position (history_of l.fn.session);
  before : List (List ℕ);
  forms : forms_of (history_of l.fn.session)
      ≡ before ++ forms_before (later_of l.session) (history_of l.session).earlier;
  sent : Sends g.W.Write.contents l.fn.link l.link true
      (flat_map (form_line (machine_of l.fn.session)) before);
}

abbrev pub decreases-loop-kind : goal.decreases-loop-kind
decreases-loop-kind g l = length (history_of l.session).earlier
