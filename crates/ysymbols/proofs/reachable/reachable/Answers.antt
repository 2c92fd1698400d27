use Rattle.std.proofs.Common.{ℕ, List, Bool, ◌∷◌, [], ◌↔◌, false, get_or, sym, subst, arith}
use Rattle.ysymbols.specs.Forms.{IsReachable}
use Rattle.ysymbols.specs.Marking.{IsMarked, IsUnmarked, OnlyReachable, numbered_grammar, rule_at}
use Rattle.ysymbols.specs.Marking.{stuck}
use Rattle.ysymbols.proofs.MarkingSteps.{closed_grows, not_both}
use Rattle.ysymbols.proofs.ReachableSteps.{all_marked, first_marked, none_marked}
use Rattle.ysymbols.proofs.reachable.reachable.Goals.{After-new-list}
use Rattle.ysymbols.proofs.reachable.reachable.Goals as goal

-- at first none is marked
none : (c : After-new-list) → (s : ℕ) → IsUnmarked c.new-list.result.marks s
none c s = subst (λ (m : List Bool). IsUnmarked m s) (sym c.new-list.ensures)
    (none_marked c.in_ok-vec.field-0.items c.args.symbols s
    (c.in_ok-vec.ensures.items_if_clones_equal (λ y h. h)))

pub spread-requires-clause-spread : goal.spread-requires-clause-spread
spread-requires-clause-spread c = λ r h.
    let p = rule_at c.args.rules.now r in
    closed_grows (p.left ∷ []) p.body c.in_ok-mark.ensures.grows (stuck 0 (omega arith)
    (none (goal.at.spread-requires-clause-spread c).After-new-list p.left))

pub returns-clause-exact : goal.returns-clause-exact
returns-clause-exact c = λ t s l.
    let n = c.args.symbols in
    let rs = c.args.rules.now in
    let g = numbered_grammar t n rs in
    let one = c.in_ok-mark.ensures in
    let two = c.in_ok-spread.ensures in
    let start : OnlyReachable g c.new-list.result.marks = λ u k. absurd (not_both
    (get_or c.new-list.result.marks u false) k
    (none (goal.at.returns-clause-exact c).After-new-list u)) in
    subst (λ (m : List Bool). IsMarked m s ↔ IsReachable g s) (sym c.into_marks.ensures) (
      two.sound t n (first_marked t n rs c.new-list.result.marks c.mark.new.self.marks
          c.left_at.result c.left_at.ensures one.only start) s,
      all_marked t n rs c.spread.new.list two.empty two.spread
          (two.keeps.kept (rule_at rs 0).left
          (subst (IsMarked c.mark.new.self.marks) c.left_at.ensures one.marked)) s,
    )
