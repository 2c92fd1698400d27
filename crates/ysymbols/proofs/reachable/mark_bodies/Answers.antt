use Rattle.std.proofs.Common.{ℕ, ◌<◌, length, slice_index, EachIndex, arith, below_more}
use Rattle.ysymbols.specs.Marking.{IsMarked, rule_at}
use Rattle.ysymbols.proofs.MarkingSteps.{grows_then}
use Rattle.ysymbols.proofs.reachable.mark_bodies.Goals as goal

pub loop-r-preserved : goal.loop-r-preserved
loop-r-preserved c =
    let rs = c.args.rules.now in
    let xs = c.args.listed.now in
    let i = c.loop-r.r-index in
    let m2 = c.mark_body.new.list.marks in
    let l : i < length xs = omega arith in
    let g = c.in_ok-mark_body.ensures.grows in
    record {
      grows = grows_then c.loop-r.invariant.grows g;
      all = below_more (λ (k : ℕ). EachIndex (rule_at rs (slice_index xs k)).body
          (λ j. IsMarked m2 (slice_index (rule_at rs (slice_index xs k)).body j))) i
          (λ k h j n. g.keeps.kept (slice_index (rule_at rs (slice_index xs k)).body j)
          (c.loop-r.invariant.all k h j n)) c.in_ok-mark_body.ensures.all;
      sound = λ tokens symbols p f. c.in_ok-mark_body.ensures.sound tokens symbols (p i l)
          (c.loop-r.invariant.sound tokens symbols p f);
    }
