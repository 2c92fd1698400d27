use Rattle.std.proofs.Common.{IsTrue, length, ◌≤◌, ◌+◌, refl, sym, subst}
use Rattle.std.specs.Prelude.{vec_len, vec_capacity}
use Rattle.ymachine.specs.declared.machine.StepKind.{StepKind}
use Rattle.ymachine.specs.Sound.{Sound}
use Rattle.ymachine.specs.Machine.{deed_by}
use Rattle.ymachine.specs.MachineOver.{machine_over}
use Rattle.ymachine.specs.Past.{Past}
use Rattle.ymachine.specs.Content.{Place, valid, place_deed, configuration_of}
use Rattle.ysession.specs.Session.{setting_of, history_of}
use Rattle.ysession.proofs.Sessions.{stays_counted}
use Rattle.ysession.proofs.Sessions.{IsDeed, a_deed, stays_shown, stays_ground, settled, deed_shown}
use Rattle.ysession.proofs.session.Session.change.Goals.{After-kept}
use Rattle.ysession.proofs.session.Session.change.Goals as goal

deed : (c : After-kept) → IsDeed c.args.self.now.journal.now (place_deed c.args.deed)
    (deed_by (machine_over c.args.self.now.journal.now.tables) c.args.deed
    (configuration_of c.args.self.now.journal.now))
deed c =
    a_deed c.args.self.now.journal.now c.args.deed
    (subst (λ (p : Place). Sound p.tables) c.machine.ensures c.kept.ensures.sound)
    (subst (λ (p : Place). IsTrue (valid p)) c.machine.ensures c.kept.ensures.valid)

pub invariant_of-self : goal.invariant_of-self
invariant_of-self c =
    let s = c.args.self.now in
    let d = deed (goal.at.invariant_of-self c).After-kept in
    record {
      steps = stays_shown (place_deed c.args.deed) _ s.journal c.make.new.journal d c.make.result
          c.make.ensures s.steps;
      ground = stays_ground (place_deed c.args.deed) _ s.journal c.make.new.journal d
          c.make.result c.make.ensures s.ground;
      count = stays_counted (place_deed c.args.deed) _ s.journal c.make.new.journal d
          c.make.result c.make.ensures s.count;
      room = subst (λ (h : Past StepKind Place). vec_len s.later + length h.earlier
          ≤ vec_capacity s.later) (sym c.in-Err.ensures.1) s.room;
    }

pub invariant_of-self-in-Ok : goal.invariant_of-self-in-Ok
invariant_of-self-in-Ok c =
    let s = c.args.self.now in
    let done = settled (place_deed c.args.deed) _ s.journal c.make.new.journal
    (deed (goal.at.invariant_of-self-in-Ok c).After-kept) c.settle.result c.settle.new.journal
    c.settle.ensures.kept c.settle.ensures.back c.in-Ok.ensures s.steps s.ground s.count in
    record {
      steps = done.0;
      ground = done.1;
      count = done.2;
      room = c.settle.ensures.room;
    }

pub returns-in-Some-clause-changes : goal.returns-in-Some-clause-changes
unfolding setting_of history_of
returns-in-Some-clause-changes c =
    let s = c.args.self.now in
    deed_shown (place_deed c.args.deed) _ s.journal c.make.new.journal
    (deed (goal.at.returns-in-Some-clause-changes c).After-kept)
    (deed_by (machine_over s.journal.now.tables) c.args.deed) refl c.in-Some.kind c.in-Ok.ensures
    c.in-Some.ensures.kind c.settle.new.journal c.in-Some.ensures.kept
