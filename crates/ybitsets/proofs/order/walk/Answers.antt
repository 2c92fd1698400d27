use Rattle.std.proofs.Common.{Bool, ◌≡◌, ◌<◌, ◌++◌, [], ◌∷◌, List, ◌∙◌, ap, sym, subst, length}
use Rattle.std.proofs.Common.{get_or}
use Rattle.std.specs.List.{All}
use Rattle.ybitsets.specs.declared.order.Turn.{Turn}
use Rattle.ybitsets.specs.declared.order.Turn.TheVariants.{Enter, Leave}
use Rattle.ybitsets.specs.Marks.{Has}
use Rattle.ybitsets.specs.Order.{AreTurns}
use Rattle.ybitsets.proofs.LinkSteps.{links_below}
use Rattle.ybitsets.proofs.MarkSteps.{kept_marked, mark_size}
use Rattle.ybitsets.proofs.OrderSteps.{turn_below, turns_skip, turns_enter, turns_leave}
use Rattle.ybitsets.proofs.order.walk.Goals.{After-mark}
use Rattle.ybitsets.proofs.order.walk.Goals as goal

-- the turn that is taken is one to enter
entering : (c : After-mark) →
    c.loop-turn.turns.items ≡ c.pop.new.self.items ++ Enter c.in-Enter.p ∷ []
entering c = c.in-Some.ensures.items
    ∙ ap (λ (x : Turn). c.pop.new.self.items ++ x ∷ []) c.in-Enter.is

-- the turns after it
skipped : (c : After-mark) →
    AreTurns c.loop-turn.seen c.pop.new.self.items c.loop-turn.order.items
skipped c = turns_skip c.loop-turn.seen c.loop-turn.turns.items c.pop.new.self.items c.in-Enter.p
    c.loop-turn.order.items (entering c) c.loop-turn.invariant.turns

pub loop-turn-preserved-in-Continue-1 : goal.loop-turn-preserved-in-Continue-1
loop-turn-preserved-in-Continue-1 c =
    let at = (goal.at.loop-turn-preserved-in-Continue-1 c).After-mark in
    let i = c.loop-turn.invariant in
    let m = c.loop-turn.seen in
    let n = c.mark.new.self in
    let p = c.in-Enter.p in
    let below = turn_below m _ c.pop.new.self.items (Enter p) c.loop-turn.order.items
    (entering at) i.turns in
    let l = subst (λ k. All (λ j. j < k) (get_or c.args.links.now p [])) (sym i.sized)
    (links_below (length c.args.seen.now) c.args.links.now p c.requires.links) in
    record {
      sized = mark_size m n p c.mark.ensures.set ∙ i.sized;
      turns = turns_enter m n c.pop.new.self.items c.enter.new.turns.items p
          (get_or c.args.links.now p []) c.loop-turn.order.items below l c.mark.ensures.set
          c.in_ok-enter-in-Enter.ensures (skipped at);
      kept = λ q h. kept_marked m n p q below c.mark.ensures.set (i.kept q h);
    }

pub loop-turn-preserved-else-mark : goal.loop-turn-preserved-else-mark
loop-turn-preserved-else-mark c =
    let i = c.loop-turn.invariant in
    let n = c.mark.new.self in
    let same = sym (c.mark.ensures.unchanged c.if-mark.false) in
    record {
      sized = mark_size c.loop-turn.seen n c.in-Enter.p c.mark.ensures.set ∙ i.sized;
      turns = subst (λ (x : List Bool). AreTurns x c.pop.new.self.items c.loop-turn.order.items)
          same (skipped (goal.at.loop-turn-preserved-else-mark c).After-mark);
      kept = λ q h. subst (λ (x : List Bool). Has x q) same (i.kept q h);
    }

pub loop-turn-preserved : goal.loop-turn-preserved
loop-turn-preserved c =
    let i = c.loop-turn.invariant in
    let t = c.pop.new.self.items in
    let p = c.in-Leave.p in
    let e : c.loop-turn.turns.items ≡ t ++ Leave p ∷ [] = c.in-Some.ensures.items ∙ ap
    (λ (x : Turn). t ++ x ∷ []) c.in-Leave.is in
    record {
      sized = i.sized;
      turns = turns_leave c.loop-turn.seen c.loop-turn.turns.items t p c.loop-turn.order.items
          c.push.new.self.items e c.in_ok-push-in-Leave.ensures.items i.turns;
      kept = i.kept;
    }
