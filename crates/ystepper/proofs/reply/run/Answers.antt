use Rattle.std.proofs.Common.{◌+◌, ◌-◌, ℕ, List, refl, arith, subst, ◌∙◌, codes, is_some, true}
use Rattle.std.proofs.Common.{false}
use Rattle.ysession.proofs.Settings.{same_machine}
use Rattle.ymachine.specs.Machine.{Machine}
use Rattle.ymachine.specs.History.{History}
use Rattle.ysession.specs.Session.{machine_of, history_of}
use Rattle.ystepper.specs.Reply.{refusal, Runs}
use Rattle.ylink.specs.Sends.{Sends}
use Rattle.ystepper.specs.Command as commands
use Rattle.ystepper.proofs.Plain.{runs_some}
use Rattle.ystepper.proofs.Replying.{replied_none, replied_line, replied_cut, replied_last}
use Rattle.ystepper.proofs.Replying.{replied_all}
use Rattle.ystepper.proofs.Replying.{runs_line, runs_fault, runs_off}
use Rattle.ystepper.proofs.reply.run.Goals as goal

pub loop-i-init : goal.loop-i-init
loop-i-init g c =
    let m : Machine = machine_of c.args.session.now in
    let h : History = history_of c.args.session.now in
    record {
      machine = refl;
      replied = replied_none g.W.Write.contents c.args.writer.now m h (commands.Run c.args.count)
          (λ k. Runs m k false h) _ c.args.count (omega arith) (λ more new r. r);
    }

pub returns-in_err-put_step-in-Ok-clause-answers : goal.returns-in_err-put_step-in-Ok-clause-answers
returns-in_err-put_step-in-Ok-clause-answers g c =
    let m : Machine = machine_of c.args.session.now in
    let mid : History = history_of c.step.new.self in
    let inv = c.loop-i.invariant in
    let n : ℕ = c.args.count - (c.loop-i._i + 1) in
    let (more, new, r) = runs_some m n true mid in
    replied_cut g.W.Write.contents _ _ _ c.from_residual.result m _ _ mid new _ _ _ (codes " ")
    c.in-Ok.kind more inv.replied (same_machine c.in-Ok.ensures.setting ∙ inv.machine)
    c.in_err-put_step-in-Ok.ensures c.from_residual.ensures
    (runs_line m _ _ n c.loop-i.made _ mid c.in-Ok.kind (omega arith) inv.machine
    c.in-Ok.ensures.steps more new r)

pub returns-in-Err-clause-answers : goal.returns-in-Err-clause-answers
returns-in-Err-clause-answers g c =
    let inv = c.loop-i.invariant in
    let said : List ℕ = refusal c.loop-i.made c.in-Err.fault in
    let put = subst (λ (t : List ℕ). Sends g.W.Write.contents c.loop-i.writer c.put.new.link
    (is_some c.put.result) t) c.refusal.ensures c.put.ensures in
    replied_last g.W.Write.contents _ _ _ _ _ _ _ _ _ said inv.replied put
    (runs_fault (machine_of c.args.session.now) _ _ (c.args.count - (c.loop-i._i + 1)) c.loop-i.made
    _ _ c.in-Err.fault
    (omega arith) inv.machine c.in-Err.ensures.steps)

pub loop-i-preserved : goal.loop-i-preserved
loop-i-preserved g c =
    let m : Machine = machine_of c.args.session.now in
    let mid : History = history_of c.step.new.self in
    let inv = c.loop-i.invariant in
    let same = same_machine c.in-Ok.ensures.setting ∙ inv.machine in
    record {
      machine = same;
      replied = replied_line g.W.Write.contents _ _ _ m _ _ mid _ _ _ (codes " ") c.in-Ok.kind
          inv.replied same c.in_ok-put_step-in-Ok.ensures
          (runs_line m _ _ (c.args.count - (c.loop-i._i + 1)) c.loop-i.made _ mid c.in-Ok.kind
          (omega arith) inv.machine c.in-Ok.ensures.steps);
    }

pub returns-clause-answers : goal.returns-clause-answers
returns-clause-answers g c =
    replied_all g.W.Write.contents _ _ _ _ _ _ _ c.loop-i.invariant.replied
    (runs_off (machine_of c.args.session.now) _ c.loop-i.made _ (omega arith))
