use Rattle.std.proofs.Common.{true, take}
use Rattle.ylink.specs.Sends.{Sends}
use Rattle.ysession.specs.Session.{machine_of, history_of, later_of}
use Rattle.ymachine.specs.Unwinding.{names_text, form_of}
use Rattle.ysession.proofs.unwind.put_names.Given as goal

-- the names so far were sent
abbrev pub invariant-loop-index : goal.invariant-loop-index
invariant-loop-index g l =
    Sends g.W.Write.contents l.initial.link l.link true
    (names_text (machine_of l.session)
    (take l.index (form_of (history_of l.session).now (later_of l.session))))
