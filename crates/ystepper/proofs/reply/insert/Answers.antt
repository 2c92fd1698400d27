use Rattle.std.proofs.Common.{codes, refl, inl, inr, subst, is_some}
use Rattle.ysession.proofs.Settings.{same_machine}
use Rattle.ymachine.specs.Machine.{Machine}
use Rattle.ymachine.specs.History.{History}
use Rattle.ysession.specs.Session.{machine_of, history_of}
use Rattle.ystepper.specs.Command as commands
use Rattle.ystepper.specs.Reply.{edit_text}
use Rattle.ylink.specs.Sends.{Sends}
use Rattle.ystepper.proofs.Replying.{answered}
use Rattle.ystepper.proofs.reply.insert.Goals as goal

pub returns-in-Some-clause-answers : goal.returns-in-Some-clause-answers
returns-in-Some-clause-answers g c =
    let w = g.W.Write.contents in
    let m : Machine = machine_of c.args.session.now in
    let h : History = history_of c.args.session.now in
    let new : History = history_of c.insert-made.new.self in
    let whole = is_some c.put_edit.result in
    let sent : Sends w c.args.writer.now c.put_edit.new.writer whole
    (edit_text m new c.insert-made.result) =
    subst (λ (x : Machine). Sends w c.args.writer.now c.put_edit.new.writer whole
    (edit_text x new c.insert-made.result))
    (same_machine c.insert-made.ensures.setting) c.put_edit.ensures in
    answered w c.args.writer.now c.put_edit.new.writer whole m h new
    (commands.Insert c.args.bytes.now) (edit_text m new c.insert-made.result)
    (inl (
      c.in-Some.token,
      c.in-Some.ensures.spells,
      (c.insert-made.result, c.insert-made.ensures.edits, refl),
    )) sent

pub returns-in-None-clause-answers : goal.returns-in-None-clause-answers
returns-in-None-clause-answers g c =
    let m : Machine = machine_of c.args.session.now in
    let h : History = history_of c.args.session.now in
    answered g.W.Write.contents c.args.writer.now c.put.new.link (is_some c.put.result) m h h
    (commands.Insert c.args.bytes.now) (codes "bad token\n")
    (inr (c.in-None.ensures.spells, refl, refl))
    c.put.ensures
