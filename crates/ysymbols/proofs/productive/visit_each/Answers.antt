use Rattle.std.proofs.Common.{ℕ, ◌∷◌, [], arith, below_more}
use Rattle.ysymbols.specs.Marking.{IsSettled, rule_at}
use Rattle.ysymbols.proofs.MarkingSteps.{grows_then, closed_grows}
use Rattle.ysymbols.proofs.productive.visit_each.Goals as goal

pub loop-r-preserved : goal.loop-r-preserved
loop-r-preserved c =
    let rs = c.args.rules.now in
    let g = c.in_ok-visit.ensures.grows in
    record {
      grows = grows_then c.loop-r.invariant.grows g;
      dots = c.in_ok-visit.ensures.dots;
      settled = below_more (λ (k : ℕ). IsSettled (rule_at rs k) c.visit.new.list) c.loop-r.r
          (λ k h. closed_grows (rule_at rs k).body ((rule_at rs k).left ∷ []) g
          (c.loop-r.invariant.settled k h)) c.in_ok-visit.ensures.settled;
      sound = λ tokens symbols f. c.in_ok-visit.ensures.sound tokens symbols
          (c.loop-r.invariant.sound tokens symbols f);
    }

pub returns-clause-settled : goal.returns-clause-settled
returns-clause-settled c = λ r h. c.loop-r.invariant.settled r (omega arith)
