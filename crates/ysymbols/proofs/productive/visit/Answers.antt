use Rattle.std.proofs.Common.{List, Bool, ◌<◌, length, subst, slice_index}
use Rattle.ysymbols.specs.Marking.{DotFits, IsMarked, IsUnmarked, marked, rule_at}
use Rattle.ysymbols.proofs.MarkingSteps.{alone}
use Rattle.ysymbols.proofs.DotSteps.{stuck_at, whole_marked}
use Rattle.ysymbols.proofs.ProductiveSteps.{left_marked}
use Rattle.ysymbols.proofs.productive.visit.Goals as goal

pub returns-in_ok-mark-clause-sound : goal.returns-in_ok-mark-clause-sound
returns-in_ok-mark-clause-sound c = λ tokens symbols f.
    let rs = c.args.rules.now in
    let m = c.args.list.now.marks in
    let dot = c.advance-dot.result in
    let body = c.body_at-body.result.now in
    let fits = subst (λ (x : List Bool). DotFits body x dot) c.marks.ensures
    c.advance-dot.ensures.fits in
    left_marked tokens symbols rs m c.mark.new.self.marks c.args.r c.left_at.result
    c.requires.within c.left_at.ensures
    (whole_marked (rule_at rs c.args.r) m dot body c.body_at-body.ensures fits
    c.if-dot-body.true) c.in_ok-mark.ensures.only f

pub returns-in_ok-mark-clause-settled : goal.returns-in_ok-mark-clause-settled
returns-in_ok-mark-clause-settled c =
    let p = rule_at c.args.rules.now c.args.r in
    let m = c.mark.new.self.marks in
    marked (alone (IsMarked m) p.left (subst (IsMarked m) c.left_at.ensures
    c.in_ok-mark.ensures.marked))

pub returns-else-dot-body-clause-settled : goal.returns-else-dot-body-clause-settled
returns-else-dot-body-clause-settled c =
    let w = c.args.list.now in
    let dot = c.advance-dot.result in
    let body = c.body_at-body.result.now in
    let fits = subst (λ (x : List Bool). DotFits body x dot) c.marks.ensures
    c.advance-dot.ensures.fits in
    let unmarked = subst (λ (x : List Bool). dot < length body →
    IsUnmarked x (slice_index body dot)) c.marks.ensures c.advance-dot.ensures.stuck
    in
    stuck_at (rule_at c.args.rules.now c.args.r) w dot body c.body_at-body.ensures fits
    c.if-dot-body.false unmarked
