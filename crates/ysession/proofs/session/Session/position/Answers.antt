use Rattle.std.proofs.Common.{sym, ◌∙◌}
use Rattle.ymachine.specs.MachineOver.{machine_over}
use Rattle.ymachine.proofs.Counters.{counted_merely}
use Rattle.ysession.specs.Session.{setting_of, history_of}
use Rattle.ysession.proofs.Sessions.{counted}
use Rattle.ysession.proofs.session.Session.position.Goals as goal

pub returns-clause-counters : goal.returns-clause-counters
unfolding setting_of history_of
returns-clause-counters c =
    let s = c.args.self.now in
    counted_merely (machine_over s.journal.now.tables) s.journal.now.tokens (history_of s) s.steps

pub returns-clause-counted : goal.returns-clause-counted
returns-clause-counted c =
    let s = c.args.self.now in
    counted s.journal.now s.journal.earlier s.count ∙ sym c.position.ensures.position
