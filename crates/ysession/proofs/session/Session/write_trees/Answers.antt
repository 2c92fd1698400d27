use Rattle.std.proofs.Common.{sym, subst, length, ◌+◌, ◌≤◌}
use Rattle.std.specs.Prelude.{vec_len, vec_capacity}
use Rattle.std.specs.List.{All}
use Rattle.ymachine.specs.declared.machine.StepKind.{StepKind}
use Rattle.ymachine.specs.Content.{Place}
use Rattle.ymachine.specs.Past.{Past}
use Rattle.ymachine.specs.Shown.{Counts, KeepsGround}
use Rattle.ysession.proofs.Sessions.{IsShown}
use Rattle.ysession.proofs.session.Session.write_trees.Goals as goal

pub invariant_of-self : goal.invariant_of-self
invariant_of-self g c =
    let s = c.args.self.now in
    record {
      steps = subst (λ (h : Past StepKind Place). ∥ IsShown h ∥₁) (sym c.write_trees.ensures.past)
          s.steps;
      room = subst (λ (h : Past StepKind Place). vec_len s.later + length h.earlier
          ≤ vec_capacity s.later) (sym c.write_trees.ensures.past) s.room;
      ground = subst (λ (h : Past StepKind Place). All (KeepsGround h.now) h.earlier)
          (sym c.write_trees.ensures.past) s.ground;
      count = subst (λ (h : Past StepKind Place). ∥ Counts h.now h.earlier ∥₁)
          (sym c.write_trees.ensures.past) s.count;
    }
