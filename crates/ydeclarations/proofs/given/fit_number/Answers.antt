use Rattle.std.proofs.Common.{◌<◌, length, arith}
use Rattle.ydeclarations.proofs.OwnSteps.{too_large, value_more}
use Rattle.ydeclarations.proofs.given.fit_number.Goals as goal

pub returns-then-value-gt-GREATEST_NUMBER : goal.returns-then-value-gt-GREATEST_NUMBER
returns-then-value-gt-GREATEST_NUMBER c =
    let h : c.loop-b.b-index < length c.args.digits.now = omega arith in
    too_large c.args.digits.now c.loop-b.b-index c.loop-b.value c.digit.result 0 h
    c.loop-b.invariant.value c.digit.ensures.value c.if-value-gt-GREATEST_NUMBER.true

pub loop-b-preserved : goal.loop-b-preserved
loop-b-preserved c =
    let h : c.loop-b.b-index < length c.args.digits.now = omega arith in
    record {
      value = value_more c.args.digits.now c.loop-b.b-index c.loop-b.value c.digit.result 0 h
          c.loop-b.invariant.value c.digit.ensures.value;
      low = omega arith;
    }
