use Rattle.std.proofs.Common.{rules}
use Rattle.yhandles.proofs.expected.expected.Goals as goal

pub returns-in-Some : goal.returns-in-Some
returns-in-Some c =
    let did = c.foretold-answer.ensures in
    (_, _, c.in-Some.ensures.taken, c.put.ensures, search rules)
