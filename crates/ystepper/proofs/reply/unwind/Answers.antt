use Rattle.std.proofs.Common.{refl, inl, inr, is_some, codes}
use Rattle.ymachine.specs.Past.{to_first}
use Rattle.ymachine.specs.Unwinding.{forms_text}
use Rattle.ysession.specs.Session.{machine_of, history_of}
use Rattle.ystepper.specs.Command as commands
use Rattle.ystepper.proofs.Replying.{answered-later}
use Rattle.ystepper.proofs.reply.unwind.Goals as goal

pub returns-in-Err-NotAccepted-clause-answers : goal.returns-in-Err-NotAccepted-clause-answers
returns-in-Err-NotAccepted-clause-answers g c =
    let told = rw c.in-Err-NotAccepted.field-0-is at c.in-Err-NotAccepted.ensures in
    let u = told.unwinds in
    answered-later g.W.Write.contents c.args.writer.now c.unwind.new.link _
    (is_some c.put.result) _ _ _ commands.Unwind (codes "not accepted\n") u.2 c.requires
    told.failed (inl (u.0, refl, u.1)) c.put.ensures

pub returns-in-Err-HadError-clause-answers : goal.returns-in-Err-HadError-clause-answers
returns-in-Err-HadError-clause-answers g c =
    let told = rw c.in-Err-HadError.field-0-is at c.in-Err-HadError.ensures in
    let u = told.unwinds in
    answered-later g.W.Write.contents c.args.writer.now c.unwind.new.link _
    (is_some c.put-in-Err-HadError.result) _ _ _ commands.Unwind (codes "had error\n") u.3
    c.requires told.failed (inr (inl (u.0, u.1, refl, u.2))) c.put-in-Err-HadError.ensures

pub returns-in-Err-Write-clause-answers : goal.returns-in-Err-Write-clause-answers
returns-in-Err-Write-clause-answers g c =
    let told = rw c.in-Err-Write.field-0-is at c.in-Err-Write.ensures in
    let u = told.unwinds in (
      forms_text (machine_of c.args.session.now) (history_of c.args.session.now),
      to_first (history_of c.args.session.now),
      inr (inr (u.0, u.1, refl, refl)),
      record { bytes = u.2.begins; failed = told.failed },
    )
