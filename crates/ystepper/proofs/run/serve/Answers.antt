use Rattle.std.proofs.Common.{true, false, Result, Err, ap, sym, ◌∙◌, subst}
use Rattle.std.proofs.lemmas.Result.{err_from_is_err_and}
use Rattle.ystepper.specs.declared.fault.SessionFault.{SessionFault}
use Rattle.ylink.specs.Link.{device_of}
use Rattle.ysession.specs.Session.{machine_of, history_of}
use Rattle.ystepper.proofs.Transcripts.{Told, told_err, told_quit, told_last}
use Rattle.ystepper.proofs.run.serve.Goals as goal

pub returns-in_err-read_lines-clause-tells : goal.returns-in_err-read_lines-clause-tells
returns-in_err-read_lines-clause-tells g c =
    let is = err_from_is_err_and c.from_residual.result c.from_residual.ensures.1 in
    let failed : SessionFault → Result (Unit {0}) SessionFault = λ x. Err x in
    let told = told_err g.W.Write.contents _ _ _ _ _ _ _ _ c.in_err-read_lines.field-0.0
    c.in_err-read_lines.ensures.tells in
    subst (λ (r : Result (Unit {0}) SessionFault). Told g.W.Write.contents c.args.writer.now
    c.read_lines.new.writer (g.R.Read.remaining (device_of c.args.reader.now))
    (g.R.Read.remaining (device_of c.read_lines.new.reader)) (machine_of c.args.session.now)
    (history_of c.args.session.now) r) (sym (is.1 ∙ ap failed is.2)) told

pub returns-in-Quit-clause-tells : goal.returns-in-Quit-clause-tells
returns-in-Quit-clause-tells g c =
    let remaining = g.R.Read.remaining in
    told_quit g.W.Write.contents c.args.writer.now c.read_lines.new.writer
    (machine_of c.args.session.now) (history_of c.args.session.now)
    (history_of c.read_lines.new.session) c.read_lines.new.held
    (remaining (device_of c.args.reader.now)) (remaining (device_of c.read_lines.new.reader))
    (rw c.in-Quit.is at c.in_ok-read_lines.ensures.tells)

pub returns-in-Some-clause-tells : goal.returns-in-Some-clause-tells
returns-in-Some-clause-tells g c =
    let remaining = g.R.Read.remaining in
    told_last g.W.Write.contents c.args.writer.now c.read_lines.new.writer
    c.answer_last.new.writer true _ _ (history_of c.args.session.now)
    (history_of c.read_lines.new.session) c.read_lines.new.held
    (remaining (device_of c.args.reader.now)) (remaining (device_of c.read_lines.new.reader))
    c.in_ok-read_lines.ensures.machine (rw c.in-GoesOn.is at c.in_ok-read_lines.ensures.tells)
    c.in-Some.ensures.tells

pub returns-in-None-clause-tells : goal.returns-in-None-clause-tells
returns-in-None-clause-tells g c =
    let remaining = g.R.Read.remaining in
    told_last g.W.Write.contents c.args.writer.now c.read_lines.new.writer
    c.answer_last.new.writer false _ _ (history_of c.args.session.now)
    (history_of c.read_lines.new.session) c.read_lines.new.held
    (remaining (device_of c.args.reader.now)) (remaining (device_of c.read_lines.new.reader))
    c.in_ok-read_lines.ensures.machine (rw c.in-GoesOn.is at c.in_ok-read_lines.ensures.tells)
    c.in-None.ensures.tells
