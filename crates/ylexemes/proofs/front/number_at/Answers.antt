use Rattle.ylexemes.proofs.Made.{number_part}
use Rattle.ylexemes.proofs.front.number_at.Goals as goal

pub returns : goal.returns
returns c = number_part c.args.bytes.now c.digit_run.result.0.now c.digit_run.result.1.now
    c.digit_run.ensures.whole c.digit_run.ensures.run c.digit_run.ensures.stop c.requires
