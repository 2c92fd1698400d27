use Rattle.std.proofs.Common.{rules, ◌≡◌, ◌==◌, ℕ, suc, List, false}
use Rattle.std.proofs.Common.{Option}
use Rattle.std.proofs.Common.{Some, take, drop, get_or, sym, ◌∙◌, subst}
use Rattle.std.proofs.lemmas.List.{take_more, take_all}
use Rattle.ymachine.specs.Machine.{Machine}
use Rattle.ymachine.specs.History.{History}
use Rattle.ysession.specs.Session.{machine_of, history_of}
use Rattle.ystepper.specs.Command.{command_view}
use Rattle.ystepper.specs.declared.run.Flow.{Flow}
use Rattle.ystepper.specs.declared.run.Flow.TheVariants.{GoesOn}
use Rattle.ystepper.specs.Serving.{ChunkTells}
use Rattle.ystepper.proofs.Lines.{whole-at}
use Rattle.ystepper.proofs.Transcripts.{chunk_line, chunk_byte, chunk_quit, chunk_fault, line_read}
use Rattle.ystepper.proofs.run.take_chunk.Goals as goal

pub loop-byte-preserved-then-byte-ne10 : goal.loop-byte-preserved-then-byte-ne10
loop-byte-preserved-then-byte-ne10 g c =
    let bytes : List ℕ = c.args.bytes.now in
    let i : ℕ = c.loop-byte.byte-index in
    let inv = c.loop-byte.invariant in
    let other : (get_or bytes i 0 == 10) ≡ false = search rules in
    record {
      machine = inv.machine;
      failed = inv.failed;
      told = λ line e.
          chunk_byte g.W.Write.contents _ _ (machine_of c.args.session.now)
          (history_of c.args.session.now) (history_of c.loop-byte.session) line
          (take i bytes) c.loop-byte.held _ c.push.new.self _ (inv.told line e) other
          (take_more bytes i 0 c.loop-byte-test.true) c.push.ensures;
    }

pub returns-in_err-answer-in-Command-clause-tells :
    goal.returns-in_err-answer-in-Command-clause-tells
returns-in_err-answer-in-Command-clause-tells g c = λ line e.
    let w = g.W.Write.contents in
    let m : Machine = machine_of c.args.session.now in
    let h : History = history_of c.args.session.now in
    let new : History = history_of c.answer.new.session in
    let bytes : List ℕ = c.args.bytes.now in
    let i : ℕ = c.loop-byte.byte-index in
    let inv = c.loop-byte.invariant in
    let says = line_read _ _ _ _ c.line_in.ensures c.as_slice.ensures c.in-Command.is in
    subst (λ (r : Option Flow). ChunkTells w c.args.writer.now c.answer.new.writer r m h line bytes
    new c.loop-byte.held) (sym c.from_residual.ensures)
    (chunk_fault w _ c.loop-byte.writer _ m _ h (history_of c.loop-byte.session) new new line
    (take i bytes) c.loop-byte.held bytes (drop (suc i) bytes) c.loop-byte.held
    (get_or bytes i 0) (command_view c.in-Command.command) (inv.told line e)
    c.if-byte-ne10.false (whole-at bytes i 0 c.loop-byte-test.true) says inv.machine
    c.in_err-answer-in-Command.ensures.answers)

pub returns-in-Quit-clause-tells : goal.returns-in-Quit-clause-tells
returns-in-Quit-clause-tells g c = λ line e.
    let bytes : List ℕ = c.args.bytes.now in
    let i : ℕ = c.loop-byte.byte-index in
    chunk_quit g.W.Write.contents c.args.writer.now c.loop-byte.writer
    (machine_of c.args.session.now) (history_of c.args.session.now)
    (history_of c.loop-byte.session) line (take i bytes) c.loop-byte.held bytes
    (drop (suc i) bytes) c.loop-byte.held (get_or bytes i 0) (c.loop-byte.invariant.told line e)
    c.if-byte-ne10.false (whole-at bytes i 0 c.loop-byte-test.true)
    (line_read _ _ _ _ c.line_in.ensures c.as_slice.ensures c.in-Quit.is)

pub loop-byte-preserved : goal.loop-byte-preserved
loop-byte-preserved g c =
    let bytes : List ℕ = c.args.bytes.now in
    let i : ℕ = c.loop-byte.byte-index in
    let inv = c.loop-byte.invariant in
    let says = line_read _ _ _ _ c.line_in.ensures c.as_slice.ensures c.in-Command.is in
    record {
      machine = c.in_ok-answer-in-Command.ensures.machine ∙ inv.machine;
      failed = c.in_ok-answer-in-Command.ensures.failed ∙ inv.failed;
      told = λ line e.
          chunk_line g.W.Write.contents _ c.loop-byte.writer _ (machine_of c.args.session.now)
          _ (history_of c.args.session.now) (history_of c.loop-byte.session)
          (history_of c.answer.new.session) line (take i bytes) c.loop-byte.held _
          c.clear.new.self (get_or bytes i 0) (command_view c.in-Command.command)
          (inv.told line e) c.if-byte-ne10.false (take_more bytes i 0 c.loop-byte-test.true)
          says inv.machine c.in_ok-answer-in-Command.ensures.answers c.clear.ensures;
    }

pub returns-clause-tells : goal.returns-clause-tells
returns-clause-tells g c = λ line e.
    let w = g.W.Write.contents in
    let m : Machine = machine_of c.args.session.now in
    let h : History = history_of c.args.session.now in
    let mid : History = history_of c.loop-byte.session in
    let bytes : List ℕ = c.args.bytes.now in
    let all : take c.loop-byte.byte-index bytes ≡ bytes =
    take_all c.loop-byte.byte-index bytes c.loop-byte-test.false in
    subst (λ (bs : List ℕ). ChunkTells w c.args.writer.now c.loop-byte.writer
    (Some GoesOn) m h line bs mid c.loop-byte.held) all (c.loop-byte.invariant.told line e)
