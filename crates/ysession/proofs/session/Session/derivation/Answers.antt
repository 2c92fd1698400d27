use Rattle.std.proofs.Common.{subst}
use Rattle.std.proofs.Math.Logic.{∥∥₁_map}
use Rattle.ymachine.specs.Content.{Place}
use Rattle.ymachine.specs.MachineOver.{machine_over}
use Rattle.ymachine.specs.Rightmost.{UnwindsRight}
use Rattle.ysession.specs.Session.{setting_of, history_of}
use Rattle.ymachine.specs.History.{first_configuration}
use Rattle.ymachine.specs.Machine.{next, edited}
use Rattle.ysession.proofs.Unwound.{undone-all}
use Rattle.ysession.proofs.session.Session.derivation.Goals as goal

pub returns-clause-derives : goal.returns-clause-derives
unfolding setting_of history_of
returns-clause-derives c = λ accepted quiet.
    let s = c.args.self.now in
    let right : UnwindsRight s.journal.now.tables.built.grammar.bare
    (machine_over s.journal.now.tables) s.journal.now.tokens (history_of s) =
    subst (λ (p : Place). UnwindsRight p.tables.built.grammar.bare (machine_over p.tables) p.tokens
    (history_of s)) c.machine.ensures (c.unwinds.ensures (history_of s)) in
    ∥∥₁_map s.steps (λ h. (right h quiet accepted).0)

pub returns-clause-first : goal.returns-clause-first
unfolding setting_of history_of
returns-clause-first c =
    let s = c.args.self.now in
    let h = history_of s in
    ∥∥₁_map s.steps (undone-all (next (machine_over s.journal.now.tables))
    (edited (machine_over s.journal.now.tables)) (first_configuration s.journal.now.tokens)
    h.now h.earlier)
