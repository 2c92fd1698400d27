use Rattle.std.proofs.Common.{List, Bool, ◌≡◌, ◌∙◌, length, ap, sym, subst}
use Rattle.ysymbols.specs.Marking.{WorklistValue, IsSettled, Keeps, OnlyProductive, left_side}
use Rattle.ysymbols.specs.Marking.{list_at, lists_of, numbered_grammar, rule_at}
use Rattle.ysymbols.proofs.MarkingSteps.{keeps_then}
use Rattle.ysymbols.proofs.DrainSteps.{drain_next, list_read, listed_within, taken_in}
use Rattle.ysymbols.proofs.productive.drain.Goals.{After-deref}
use Rattle.ysymbols.proofs.productive.drain.Goals as goal

-- what is visited is the list of the symbol that is taken
visited : (c : After-deref)
    → c.deref.result.now ≡ list_at (lists_of c.in_ok-places.places) c.in-Some.s
visited c = list_read _ _ _ _ (taken_in _ _ _ c.in-Some.ensures (c.loop-s.invariant.keeps.sized
    ∙ ap (λ (m : List Bool). length m) (sym c.marks.ensures)) c.in_ok-places.ensures.sized)
    c.index.ensures c.deref.ensures.value

pub visit_listed-requires-clause-listed : goal.visit_listed-requires-clause-listed
visit_listed-requires-clause-listed c =
    let here = goal.at.visit_listed-requires-clause-listed c in
    λ k h. (listed_within _ _ _ _ _ _ (visited here.After-deref) c.in_ok-places.ensures k h).0

pub loop-s-preserved : goal.loop-s-preserved
loop-s-preserved c =
    let here = goal.at.loop-s-preserved c in
    let t = c.in-Some.ensures in
    let v = c.in_ok-visit_listed.ensures in
    let inv = c.loop-s.invariant in
    record {
      keeps = keeps_then inv.keeps (subst (λ m. Keeps m c.visit_listed.new.list.marks) t.marks
          v.grows.keeps);
      dots = v.dots;
      settled = drain_next _ _ _ _ _ _ (visited here.After-deref) c.in_ok-places.ensures left_side
          t v.grows v.settled inv.settled;
      sound = λ tokens symbols f. v.sound tokens symbols
          (subst (OnlyProductive (numbered_grammar tokens symbols c.args.rules.now)) (sym t.marks)
          (inv.sound tokens symbols f));
    }

pub returns-clause-settled : goal.returns-clause-settled
returns-clause-settled c = λ r h.
    subst (λ (w : WorklistValue). IsSettled (rule_at c.args.rules.now r) w)
    (sym c.in_default.ensures.0) (c.loop-s.invariant.settled r h)
