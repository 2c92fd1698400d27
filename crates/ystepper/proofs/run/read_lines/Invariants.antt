use Rattle.std.proofs.Common.{ℕ, List, ◌≡◌, ◌≤◌, length, take, true}
use Rattle.std.specs.Io.KnownBytes.{Consumes}
use Rattle.ylink.specs.Link.{device_of, has_failed}
use Rattle.ylink.specs.Sends.{Sends}
use Rattle.ysession.specs.Session.{machine_of, history_of}
use Rattle.ystepper.specs.declared.run.Flow.TheVariants.{GoesOn}
use Rattle.ystepper.specs.Line.{line_room}
use Rattle.ystepper.specs.Serving.{whole_lines, rest_line, Replies}
use Rattle.ystepper.proofs.run.read_lines.Given as goal

-- what was taken was answered, and each read took some bytes
abbrev pub invariant-loop-i : goal.invariant-loop-i
invariant-loop-i g l = record {
  machine : machine_of l.session ≡ machine_of l.initial.session;
  read_failed : has_failed l.reader ≡ has_failed l.initial.reader;
  write_failed : has_failed l.writer ≡ has_failed l.initial.writer;
  taken : List ℕ;
  text : List ℕ;
  consumed : Consumes (g.R.Read.remaining (device_of l.initial.reader))
      (g.R.Read.remaining (device_of l.reader)) taken;
  enough : l._i ≤ length taken;
  replied : Replies (machine_of l.initial.session) (history_of l.initial.session)
      (whole_lines taken) GoesOn text (history_of l.session);
  sent : Sends g.W.Write.contents l.initial.writer l.writer true text;
  held : l.held ≡ take line_room (rest_line taken);
}
