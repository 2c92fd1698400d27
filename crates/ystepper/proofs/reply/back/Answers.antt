use Rattle.std.proofs.Common.{◌+◌, ◌-◌, ℕ, List, refl, arith, ◌∙◌, codes, true, false}
use Rattle.ysession.proofs.Settings.{same_machine}
use Rattle.ymachine.specs.Machine.{Machine}
use Rattle.ymachine.specs.Past.{back_by}
use Rattle.ymachine.specs.History.{History}
use Rattle.ysession.specs.Session.{machine_of, history_of}
use Rattle.ystepper.specs.Reply.{undo_text}
use Rattle.ystepper.specs.Command as commands
use Rattle.ystepper.proofs.Replying.{replied_none, replied_line, replied_cut, replied_last}
use Rattle.ystepper.proofs.Replying.{replied_all}
use Rattle.ystepper.proofs.Replying.{Undos, undos_line, undos_none, undos_off}
use Rattle.ystepper.proofs.reply.back.Goals as goal

pub loop-i-init : goal.loop-i-init
loop-i-init g c =
    let m : Machine = machine_of c.args.session.now in
    let h : History = history_of c.args.session.now in
    record {
      machine = refl;
      replied = replied_none g.W.Write.contents c.args.writer.now m h (commands.Back c.args.count)
          (λ k. Undos m k false h) _ c.args.count (omega arith) (λ more new r. r);
    }

pub returns-in_err-put_step-in-Ok-clause-answers : goal.returns-in_err-put_step-in-Ok-clause-answers
returns-in_err-put_step-in-Ok-clause-answers g c =
    let m : Machine = machine_of c.args.session.now in
    let new : History = history_of c.back.new.self in
    let inv = c.loop-i.invariant in
    let n : ℕ = c.args.count - (c.loop-i._i + 1) in
    let more : List ℕ = undo_text m n true new.earlier in
    replied_cut g.W.Write.contents _ _ _ c.from_residual.result m _ _ new (back_by n new) _ _ _
    (codes " undo ") c.in-Ok.kind more inv.replied
    (same_machine c.in-Ok.ensures.setting ∙ inv.machine)
    c.in_err-put_step-in-Ok.ensures c.from_residual.ensures
    (undos_line m _ n c.loop-i.made _ new c.in-Ok.kind (omega arith) c.in-Ok.ensures.undoes more
    (back_by n new) (refl, refl))

pub returns-in-Err-clause-answers : goal.returns-in-Err-clause-answers
returns-in-Err-clause-answers g c =
    replied_all g.W.Write.contents _ _ _ _ _ _ _ c.loop-i.invariant.replied
    (undos_none (machine_of c.args.session.now) _ (c.args.count - (c.loop-i._i + 1)) c.loop-i.made
    true _ _ (omega arith)
    c.if-made.true c.in-Err.ensures.undoes.0 c.in-Err.ensures.undoes.1)

pub returns-in-Err-2-clause-answers : goal.returns-in-Err-2-clause-answers
returns-in-Err-2-clause-answers g c =
    replied_last g.W.Write.contents _ _ _ _ _ _ _ _ _ (codes "at start\n")
    c.loop-i.invariant.replied c.put.ensures
    (undos_none (machine_of c.args.session.now) _ (c.args.count - (c.loop-i._i + 1)) c.loop-i.made
    false _ _ (omega arith)
    c.if-made.false c.in-Err.ensures.undoes.0 c.in-Err.ensures.undoes.1)

pub loop-i-preserved : goal.loop-i-preserved
loop-i-preserved g c =
    let m : Machine = machine_of c.args.session.now in
    let new : History = history_of c.back.new.self in
    let inv = c.loop-i.invariant in
    let same = same_machine c.in-Ok.ensures.setting ∙ inv.machine in
    record {
      machine = same;
      replied = replied_line g.W.Write.contents _ _ _ m _ _ new _ _ _ (codes " undo ")
          c.in-Ok.kind inv.replied same c.in_ok-put_step-in-Ok.ensures
          (undos_line m _ (c.args.count - (c.loop-i._i + 1)) c.loop-i.made _ new c.in-Ok.kind
          (omega arith) c.in-Ok.ensures.undoes);
    }

pub returns-clause-answers : goal.returns-clause-answers
returns-clause-answers g c =
    replied_all g.W.Write.contents _ _ _ _ _ _ _ c.loop-i.invariant.replied
    (undos_off (machine_of c.args.session.now) _ c.loop-i.made (history_of c.loop-i.session)
    (omega arith))
