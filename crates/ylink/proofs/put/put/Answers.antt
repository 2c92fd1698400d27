use Rattle.std.proofs.Common.{ℕ, ◌≤◌, List, length, take, drop, is_some, arith, ap, sym, subst, ◌∙◌}
use Rattle.std.proofs.Common.{length-drop}
use Rattle.std.proofs.lemmas.List.{take_rest}
use Rattle.std.proofs.Math.Seq.{take-add}
use Rattle.std.specs.Io.KnownBytes.{Appends}
use Rattle.std.proofs.KnownBytes.{Appends-trans}
use Rattle.ylink.specs.Link.{device_of}
use Rattle.ylink.proofs.Sent.{Sends-cut}
use Rattle.ylink.proofs.put.put.Goals as goal

pub returns-in_err-at : goal.returns-in_err-at
returns-in_err-at g c =
    Sends-cut g.W.Write.contents c.args.link.now c.loop-at.link c.write.new.self
    (is_some c.from_residual.result) c.loop-at.at c.args.text.now
    (ap is_some c.from_residual.ensures) c.loop-at.invariant.written c.in_err-at.ensures.bytes
    c.in_err-at.ensures.failed

pub loop-at-preserved : goal.loop-at-preserved
loop-at-preserved g c =
    let w = g.W.Write.contents in
    let n : ℕ = c.in_ok-at.field-0 in
    let rest = take_rest c.args.text.now c.loop-at.at in
    let more : Appends (w (device_of c.loop-at.link)) (w (device_of c.write.new.self))
    (take n (drop c.loop-at.at c.args.text.now)) =
    subst (λ (t : List ℕ). Appends (w (device_of c.loop-at.link)) (w (device_of c.write.new.self))
    (take n t)) rest c.in_ok-at.ensures.bytes.1 in
    let few : n ≤ length (drop c.loop-at.at c.args.text.now) = subst (λ (t : List ℕ). n ≤ length t)
    rest c.in_ok-at.ensures.bytes.0 in
    record {
      within = omega (arith, length-drop c.loop-at.at c.args.text.now);
      written =
          subst (λ (t : List ℕ). Appends (w (device_of c.args.link.now))
          (w (device_of c.write.new.self)) t) (sym (take-add c.loop-at.at n c.args.text.now))
          (Appends-trans _ _ _ (take c.loop-at.at c.args.text.now) _ c.loop-at.invariant.written
          more);
      failed = c.in_ok-at.ensures.failed ∙ c.loop-at.invariant.failed;
    }
