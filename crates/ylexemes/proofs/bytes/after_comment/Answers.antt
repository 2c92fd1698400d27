use Rattle.ylexemes.proofs.Fronts.{comment_answer}
use Rattle.ylexemes.proofs.bytes.after_comment.Goals as goal

pub returns-in-Some : goal.returns-in-Some
returns-in-Some c = comment_answer c.args.bytes.now c.in-Some.more.now c.after_pair.result
    c.in-Some.ensures c.after_pair.ensures
