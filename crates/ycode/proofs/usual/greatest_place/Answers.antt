use Rattle.std.proofs.Common.{◌∙◌, Bool, cond, slice_index, sym, ap, arith}
use Rattle.std.proofs.lemmas.Bool.{lt-ltb, le-ltb}
use Rattle.ycode.proofs.UsualSteps.{greatest_more}
use Rattle.ycode.proofs.usual.greatest_place.Goals.{then-numbers-best, else-numbers-best}
use Rattle.ycode.proofs.usual.greatest_place.Goals as goal

pub loop-i-preserved : goal.loop-i-preserved
loop-i-preserved c =
    let ns = c.args.numbers.now in
    let i = c.loop-i.i in
    let b = c.loop-i.best in
    let inv = c.loop-i.invariant in
    let t = c.loop-i-test.true in
    elim c.if-numbers-best.branch [
      | then-numbers-best w ↦
          record {
            best = greatest_more ns i b c.if-numbers-best.best inv.best
                (w.best-is ∙ sym (ap (λ (x : Bool). cond x i b)
                (lt-ltb (slice_index ns b) (slice_index ns i) w.if-numbers-best.true)));
            within = λ l. (let e = w.best-is in omega (arith, e, t));
          }
      | else-numbers-best w ↦
          record {
            best = greatest_more ns i b c.if-numbers-best.best inv.best
                (w.best-is ∙ sym (ap (λ (x : Bool). cond x i b)
                (le-ltb (slice_index ns b) (slice_index ns i) w.if-numbers-best.false)));
            within = λ l. (let e = w.best-is in let k = inv.within l in omega (arith, e, k));
          }
    ]
