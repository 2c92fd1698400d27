use Rattle.std.proofs.Common.{◌≡◌, ◌-◌}
use Rattle.ysession.specs.Session.{machine_of, history_of}
use Rattle.ystepper.specs.Command as commands
use Rattle.ystepper.specs.Reply.{Runs}
use Rattle.ystepper.proofs.Replying.{Replied}
use Rattle.ystepper.proofs.reply.run.Given as goal

-- whatever the remaining steps reply completes the whole reply
abbrev pub invariant-loop-i : goal.invariant-loop-i
invariant-loop-i g l = record {
  machine : machine_of l.session ≡ machine_of l.initial.session;
  replied : Replied g.W.Write.contents l.initial.writer l.writer (machine_of l.initial.session)
      (history_of l.initial.session) (commands.Run l.count)
      (Runs (machine_of l.initial.session) (l.count - l._i) l.made (history_of l.session));
}
