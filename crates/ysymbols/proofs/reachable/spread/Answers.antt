use Rattle.std.proofs.Common.{List, Bool, ◌≡◌, ◌∙◌, length, ap, sym, subst}
use Rattle.ysymbols.specs.Forms.{IsReachable}
use Rattle.ysymbols.specs.Marking.{WorklistValue, IsSpread, Keeps, OnlyReachable, right_side}
use Rattle.ysymbols.specs.Marking.{list_at, lists_of, numbered_grammar, rule_at}
use Rattle.ysymbols.proofs.MarkingSteps.{keeps_then}
use Rattle.ysymbols.proofs.DrainSteps.{contains_alone, drain_next, list_read, listed_within}
use Rattle.ysymbols.proofs.DrainSteps.{taken_in}
use Rattle.ysymbols.proofs.reachable.spread.Goals.{After-deref}
use Rattle.ysymbols.proofs.reachable.spread.Goals as goal

-- the bodies that are marked are those of the rules of the symbol that is taken
visited : (c : After-deref)
    → c.deref.result.now ≡ list_at (lists_of c.in_ok-by_left.by_left) c.in-Some.s
visited c = list_read _ _ _ _ (taken_in _ _ _ c.in-Some.ensures (c.loop-s.invariant.keeps.sized
    ∙ ap (λ (m : List Bool). length m) (sym c.marks.ensures)) c.in_ok-by_left.ensures.sized)
    c.index.ensures c.deref.ensures.value

pub mark_bodies-requires-clause-listed : goal.mark_bodies-requires-clause-listed
mark_bodies-requires-clause-listed c =
    let here = goal.at.mark_bodies-requires-clause-listed c in
    λ k h. (listed_within _ _ _ _ _ _ (visited here.After-deref) c.in_ok-by_left.ensures k h).0

pub loop-s-preserved : goal.loop-s-preserved
loop-s-preserved c =
    let l = visited (goal.at.loop-s-preserved c).After-deref in
    let t = c.in-Some.ensures in
    let v = c.in_ok-mark_bodies.ensures in
    let inv = c.loop-s.invariant in
    record {
      keeps = keeps_then inv.keeps (subst (λ m. Keeps m c.mark_bodies.new.list.marks) t.marks
          v.grows.keeps);
      spread = drain_next _ _ _ _ _ _ l c.in_ok-by_left.ensures right_side t v.grows v.spread
          inv.spread;
      sound = λ tokens symbols f.
          let g = numbered_grammar tokens symbols c.args.rules.now in
          let before = inv.sound tokens symbols f in
          v.sound tokens symbols (λ k h. subst (IsReachable g)
          (sym (contains_alone (listed_within _ _ _ _ _ _ l c.in_ok-by_left.ensures k h).1))
          (before _ t.marked)) (subst (OnlyReachable g) (sym t.marks) before);
    }

pub returns-clause-spread : goal.returns-clause-spread
returns-clause-spread c = λ r h.
    subst (λ (w : WorklistValue). IsSpread (rule_at c.args.rules.now r) w)
    (sym c.in_default.ensures.0) (c.loop-s.invariant.spread r h)
