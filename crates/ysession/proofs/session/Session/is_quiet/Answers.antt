use Rattle.ysession.specs.Session.{history_of}
use Rattle.ysession.proofs.Unwound.{quiet, unquiet}
use Rattle.ysession.proofs.session.Session.is_quiet.Goals as goal

pub returns : goal.returns
unfolding history_of
returns c =
    let earlier = c.args.self.now.journal.earlier in
    let changes = c.changes.result.now in (
      λ t. quiet changes earlier c.changes.ensures.kinds (c.are_quiet.ensures.0 t),
      λ n. c.are_quiet.ensures.1 (unquiet changes earlier c.changes.ensures.kinds n),
    )
