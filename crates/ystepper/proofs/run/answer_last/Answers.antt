use Rattle.std.proofs.Common.{◌≡◌, ◌==◌, ℕ, List, [], Bool, true, false, is_some, length, ap, sym}
use Rattle.std.proofs.Common.{◌∙◌}
use Rattle.ysession.specs.Session.{machine_of, history_of}
use Rattle.ystepper.specs.Command.{command_view}
use Rattle.ystepper.proofs.Transcripts.{ends_line, ends_quit, line_read}
use Rattle.ystepper.proofs.run.answer_last.Goals as goal

-- a list that isn't empty by the test
some : (held last : List ℕ) (empty : Bool) → last ≡ held → empty ≡ (length last == 0)
    → empty ≡ false → held ≡ [] → ⊥
some held last empty e test full none =
    let bad : false ≡ true = sym full ∙ test ∙ ap (λ (l : List ℕ). length l == 0) (e ∙ none) in cc

pub returns-in-Quit-clause-tells : goal.returns-in-Quit-clause-tells
returns-in-Quit-clause-tells g c = λ line e.
    ends_quit g.W.Write.contents c.args.writer.now (machine_of c.args.session.now)
    (history_of c.args.session.now) line c.args.held.now e
    (some c.args.held.now c.as_slice-last.result.now c.is_empty.result c.as_slice-last.ensures
    c.is_empty.ensures c.if-is_empty.false)
    (line_read _ _ _ _ c.line_in.ensures c.as_slice-last.ensures c.in-Quit.is)

pub returns-in-Command-clause-tells : goal.returns-in-Command-clause-tells
returns-in-Command-clause-tells g c = λ line e.
    ends_line g.W.Write.contents c.args.writer.now c.answer.new.writer (is_some c.answer.result)
    (machine_of c.args.session.now) (history_of c.args.session.now)
    (history_of c.answer.new.session) line c.args.held.now (command_view c.in-Command.command) e
    (some c.args.held.now c.as_slice-last.result.now c.is_empty.result c.as_slice-last.ensures
    c.is_empty.ensures c.if-is_empty.false)
    (line_read _ _ _ _ c.line_in.ensures c.as_slice-last.ensures c.in-Command.is)
    c.answer.ensures.answers
