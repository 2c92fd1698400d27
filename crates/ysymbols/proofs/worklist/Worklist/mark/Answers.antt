use Rattle.std.proofs.Common.{ℕ, List, true, ◌<◌, length, sym, subst}
use Rattle.std.proofs.Common.{rules}
use Rattle.std.proofs.Math.ListN.{set}
use Rattle.ysymbols.specs.Marking.{WorklistValue, Grows, IsUnmarked, IsWorklist}
use Rattle.ysymbols.proofs.MarkingSteps.{grows_new, worklist_new}
use Rattle.ysymbols.proofs.worklist.Worklist.mark.Goals as goal
use Rattle.ysymbols.proofs.worklist.Worklist.mark.Goals.{In_ok-push}

-- the worklist before
abbrev before : In_ok-push → WorklistValue
before c = record {
  marks = c.self.inside.marks.items;
  order = c.self.inside.order.items;
  taken = c.self.inside.taken;
}

within : (c : In_ok-push) → c.args.s < length (before c).marks
within c = subst (λ (w : WorklistValue). c.args.s < length w.marks) (sym c.self.view_is) c.requires

pub invariant_of-self-then-not-index : goal.invariant_of-self-then-not-index
invariant_of-self-then-not-index c =
    let here = (goal.at.invariant_of-self-then-not-index c).In_ok-push in
    let w = before here in
    let u : IsUnmarked w.marks c.args.s = search rules in
    subst (λ (o : List ℕ). IsWorklist (record w { marks = set w.marks c.args.s true; order = o }))
    (sym c.in_ok-push.ensures.items) (worklist_new w c.args.s (within here) u c.self.invariant)

pub returns-in_ok-push-clause-grows : goal.returns-in_ok-push-clause-grows
returns-in_ok-push-clause-grows c =
    let here = (goal.at.returns-in_ok-push-clause-grows c).In_ok-push in
    let w = before here in
    subst (λ (v : WorklistValue). Grows v (record w {
      marks = set w.marks c.args.s true;
      order = c.push.new.self.items;
    })) c.self.view_is
    (subst (λ (o : List ℕ). Grows w (record w { marks = set w.marks c.args.s true; order = o }))
    (sym c.in_ok-push.ensures.items) (grows_new w c.args.s (within here) c.self.invariant.within))
