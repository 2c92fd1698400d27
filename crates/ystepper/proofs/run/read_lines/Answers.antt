use Rattle.std.proofs.Common.{◌≡◌, ◌++◌, ℕ, List, [], length, take, arith, ◌∙◌}
use Rattle.std.proofs.Common.{refl, length-append, length-take-le}
use Rattle.std.proofs.KnownBytes.{Consumes-nil, Consumes-trans}
use Rattle.ylink.proofs.Sent.{Sends-nothing}
use Rattle.ysession.specs.Session.{machine_of, history_of}
use Rattle.ystepper.specs.declared.run.Flow.TheVariants.{GoesOn, Quit}
use Rattle.ystepper.proofs.Transcripts.{Replies_none, read_on, read_fault, quit_ends}
use Rattle.ystepper.proofs.run.read_lines.Goals as goal

pub loop-i-init : goal.loop-i-init
loop-i-init g c = record {
  machine = refl;
  read_failed = refl;
  write_failed = refl;
  taken = [];
  text = [];
  consumed = Consumes-nil _;
  enough = omega arith;
  replied = Replies_none (machine_of c.args.session.now) (history_of c.args.session.now);
  sent = Sends-nothing g.W.Write.contents c.args.writer.now;
  held = c.requires.held;
}

pub returns-in-Some-Quit-clause-tells : goal.returns-in-Some-Quit-clause-tells
returns-in-Some-Quit-clause-tells g c =
    let inv = c.loop-i.invariant in
    let bytes : List ℕ = take c.in-Some.n c.read.new.buf in
    let told = rw c.in-Some-Quit.field-0-is at c.in-Some-Quit.ensures in
    let r = read_on g.W.Write.contents _ _ _ _ _ _ (history_of c.loop-i.session)
    (history_of c.take_chunk.new.session) Quit inv.taken inv.text bytes _ c.take_chunk.new.held
    inv.machine inv.held inv.replied inv.sent told.tells in (
      inv.taken ++ bytes,
      inv.text ++ r.0,
      Consumes-trans _ _ _ inv.taken bytes inv.consumed c.in-Some.ensures.bytes.1,
      r.1,
      r.2,
      λ on. absurd (quit_ends on),
    )

pub returns-in-None-clause-tells : goal.returns-in-None-clause-tells
returns-in-None-clause-tells g c =
    let inv = c.loop-i.invariant in
    let bytes : List ℕ = take c.in-Some.n c.read.new.buf in (
      inv.taken ++ bytes,
      Consumes-trans _ _ _ inv.taken bytes inv.consumed c.in-Some.ensures.bytes.1,
      read_fault g.W.Write.contents _ _ _ _ _ _ (history_of c.loop-i.session)
          (history_of c.take_chunk.new.session) inv.taken inv.text bytes _
          c.take_chunk.new.held inv.machine inv.held inv.replied inv.sent
          c.in-None.ensures.tells,
    )

pub loop-i-preserved : goal.loop-i-preserved
loop-i-preserved g c =
    let inv = c.loop-i.invariant in
    let bytes : List ℕ = take c.in-Some.n c.read.new.buf in
    let told = rw c.in-Some-GoesOn.field-0-is at c.in-Some-GoesOn.ensures in
    let r = read_on g.W.Write.contents _ _ _ _ _ _ (history_of c.loop-i.session)
    (history_of c.take_chunk.new.session) GoesOn inv.taken inv.text bytes _
    c.take_chunk.new.held inv.machine inv.held inv.replied inv.sent told.tells in
    let count : length bytes ≡ c.in-Some.n =
    length-take-le c.in-Some.n c.read.new.buf c.in-Some.ensures.bytes.0 in
    record {
      machine = c.in-Some-GoesOn.ensures.machine ∙ inv.machine;
      read_failed = c.in-Some.ensures.failed ∙ inv.read_failed;
      write_failed = c.in-Some-GoesOn.ensures.failed ∙ inv.write_failed;
      taken = inv.taken ++ bytes;
      text = inv.text ++ r.0;
      consumed = Consumes-trans _ _ _ inv.taken bytes inv.consumed c.in-Some.ensures.bytes.1;
      enough = omega (arith, length-append inv.taken bytes, count, inv.enough, c.if-n-eq0.false);
      replied = r.1;
      sent = r.2;
      held = r.3 refl;
    }
