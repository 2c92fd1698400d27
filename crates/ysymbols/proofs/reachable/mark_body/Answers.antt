use Rattle.std.proofs.Common.{ℕ, List, ◌<◌, length, slice_index, refl, subst, arith, below_more}
use Rattle.ysymbols.specs.Marking.{IsMarked, rule_at}
use Rattle.ysymbols.proofs.MarkingSteps.{grows_then}
use Rattle.ysymbols.proofs.ReachableSteps.{symbol_marked}
use Rattle.ysymbols.proofs.reachable.mark_body.Goals as goal

pub loop-s-preserved : goal.loop-s-preserved
loop-s-preserved c =
    let rs = c.args.rules.now in
    let r = c.args.r in
    let i = c.loop-s.s-index in
    let body = c.body_at-s-items.result.now in
    let m = c.loop-s.list.marks in
    let m2 = c.mark.new.self.marks in
    let l : i < length body = omega arith in
    record {
      grows = grows_then c.loop-s.invariant.grows c.in_ok-mark.ensures.grows;
      all = below_more (λ (k : ℕ). IsMarked m2 (slice_index (rule_at rs r).body k)) i
          (λ k h. c.in_ok-mark.ensures.grows.keeps.kept (slice_index (rule_at rs r).body k)
          (c.loop-s.invariant.all k h)) (subst (λ (b : List ℕ). IsMarked m2 (slice_index b i))
          c.body_at-s-items.ensures c.in_ok-mark.ensures.marked);
      sound = λ tokens symbols p f. symbol_marked tokens symbols rs m m2 r i (slice_index body i)
          body c.requires.within c.body_at-s-items.ensures l refl c.in_ok-mark.ensures.only p
          (c.loop-s.invariant.sound tokens symbols p f);
    }
