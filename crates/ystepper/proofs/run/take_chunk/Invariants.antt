use Rattle.std.proofs.Common.{ℕ, List, ◌≡◌, take, Some}
use Rattle.ylink.specs.Link.{has_failed}
use Rattle.ysession.specs.Session.{machine_of, history_of}
use Rattle.ystepper.specs.declared.run.Flow.TheVariants.{GoesOn}
use Rattle.ystepper.specs.Line.{line_room}
use Rattle.ystepper.specs.Serving.{ChunkTells}
use Rattle.ystepper.proofs.run.take_chunk.Given as goal

-- the bytes so far were answered
abbrev pub invariant-loop-byte : goal.invariant-loop-byte
invariant-loop-byte g l = record {
  machine : machine_of l.session ≡ machine_of l.initial.session;
  failed : has_failed l.writer ≡ has_failed l.initial.writer;
  told : (line : List ℕ) → l.initial.held ≡ take line_room line
      → ChunkTells g.W.Write.contents l.initial.writer l.writer (Some GoesOn)
      (machine_of l.initial.session) (history_of l.initial.session) line (take l.byte-index l.bytes)
      (history_of l.session) l.held;
}
