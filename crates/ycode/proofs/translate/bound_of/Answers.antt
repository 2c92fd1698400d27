use Rattle.std.proofs.Common.{◌≡◌, ◌+◌, ◌<◌, ◌∙◌, length, sym, arith, max}
use Rattle.ycode.proofs.TranslationSteps.{bound_more, bound_all, above_more, none_missing}
use Rattle.ycode.proofs.TranslationSteps.{ord_max_is}
use Rattle.ycode.proofs.translate.bound_of.Goals.{in-Some, in_default}
use Rattle.ycode.proofs.translate.bound_of.Goals as goal

pub loop-s-preserved : goal.loop-s-preserved
loop-s-preserved c =
    let numbers = c.args.grammar.now.numbers in
    let s = c.loop-s.s in
    let inv = c.loop-s.invariant in
    let l : s < length numbers = (let t = c.loop-s-test.true in let r = c.requires in
    let w = c.symbols-well_formed.ensures.whole.numbers in omega (arith, t, r, w)) in
    elim c.match-number.branch [
      | in-Some w ↦
          (let n = w.in-Some.n in
          let here = sym c.number.ensures ∙ w.in-Some.is in
          let e : c.match-number.bound ≡ max c.loop-s.bound (n + 1) = w.bound-is ∙
          (w.max-bound.ensures ∙ ord_max_is c.loop-s.bound (n + 1)) in
          rw e record {
            above = above_more numbers s n c.loop-s.bound here inv.above;
            few = omega arith;
            is = bound_more numbers s n c.loop-s.bound l here inv.is;
          })
      | in_default w ↦
          absurd (none_missing numbers s l (sym c.number.ensures ∙ w.in_default.is))
    ]

pub returns-clause-is : goal.returns-clause-is
returns-clause-is c = bound_all c.args.grammar.now.numbers c.loop-s.s c.loop-s.bound
    (let t = c.loop-s-test.false in let r = c.requires in
    let w = c.symbols-well_formed.ensures.whole.numbers in omega (arith, t, r, w))
    c.loop-s.invariant.is
