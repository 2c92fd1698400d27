use Rattle.std.proofs.Common.{sym, ◌∙◌}
use Rattle.ysession.specs.Session.{setting_of, history_of}
use Rattle.ysession.proofs.Sessions.{shorter, shorter_ground, shorter_room, ground_before, no_step}
use Rattle.ysession.proofs.Sessions.{setting_same, shorter_counts}
use Rattle.ysession.proofs.session.Session.undo.Goals as goal

pub returns-in-None-clause-undoes : goal.returns-in-None-clause-undoes
unfolding history_of
returns-in-None-clause-undoes c = (
  no_step c.args.self.now.journal.earlier (sym c.last_kind.ensures ∙ c.in-None.is),
  λ i. history_of c.args.self.now,
)

pub invariant_of-self : goal.invariant_of-self
invariant_of-self c =
    let s = c.args.self.now in
    let new = c.back.new.self in
    record {
      steps = shorter c.back.result s.journal new c.back.ensures s.ground s.steps;
      room = shorter_room c.back.result s.journal new c.back.ensures s.later s.room;
      ground = shorter_ground c.back.result s.journal new c.back.ensures s.ground;
      count = shorter_counts c.back.result s.journal new c.back.ensures s.count;
    }

pub returns-clause-setting : goal.returns-clause-setting
unfolding setting_of
returns-clause-setting c =
    let s = c.args.self.now in
    let new = c.back.new.self in
    let same = ground_before s.journal c.in_ok-back.ensures.0 new.now new.earlier
    c.in_ok-back.ensures.1 s.ground in
    setting_same new.now s.journal.now same.0 same.1
