use Rattle.std.proofs.Common.{arith}
use Rattle.ymachine.specs.Rest.{rest_in}
use Rattle.ymachine.proofs.Rests.{length-left}
use Rattle.ymachine.proofs.rest.left_len.Goals as goal

pub returns : goal.returns
returns c =
    let l = length-left c.args.tokens.now (rest_in c.args.rest.now) in
    let r = c.saturating_sub.ensures in
    omega (arith, l, r)
