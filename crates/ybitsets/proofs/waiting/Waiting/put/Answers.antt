use Rattle.std.proofs.Common.{Bool, List, ℕ, [], ◌∷◌, ◌++◌, length, sym, subst, ◌<◌}
use Rattle.ybitsets.specs.Waiting.{AreListed}
use Rattle.ybitsets.proofs.WaitingSteps.{put_marked}
use Rattle.ybitsets.proofs.waiting.Waiting.put.Goals as goal

pub invariant_of-self-then-not-has : goal.invariant_of-self-then-not-has
invariant_of-self-then-not-has c =
    let w = c.self.inside in
    let next = w.next.items ++ c.args.p ∷ [] in
    subst (λ (b : List ℕ). AreListed c.mark.new.self w.round.items b) (sym c.in_ok-push.ensures.items)
    (subst (λ (m : List Bool). AreListed m w.round.items next) (sym c.mark.ensures.set)
    (put_marked w.marks w.round.items w.next.items c.args.p c.self.invariant
    (subst (λ (m : List Bool). c.args.p < length m) (sym c.self.view_is) c.requires)))
