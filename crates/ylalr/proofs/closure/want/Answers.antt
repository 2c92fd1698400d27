use Rattle.std.proofs.Common.{◌<◌, ◌+◌, length, subst, sym, arith}
use Rattle.ybitsets.specs.Rows.{IsSized}
use Rattle.ybitsets.proofs.Growth.{sized_grown}
use Rattle.ylalr.proofs.ListSteps.{item_at, item_there, Wanting, wanting_end, wanting_more}
use Rattle.ylalr.proofs.closure.want.Goals as goal
use Rattle.ylalr.proofs.closure.want.Goals.{in-Some, in_default}

pub loop-item-preserved : goal.loop-item-preserved
loop-item-preserved c =
    let g = c.args.grammar.now.bare in
    let xs = c.args.kernel.now in
    let n = c.loop-item.item-index in
    let p = item_at xs n in
    let h : n < length xs = omega arith in
    let e = item_there xs n h in
    let i = c.loop-item.invariant in
    elim c.match-symbol_after.branch [
      | in-Some w ↦ record {
        sized = subst (IsSized 1 (length g.rules)) (sym w.wanted-is)
            (sized_grown c.loop-item.wanted w.add_from.new.self 1 (length g.rules) w.add_from.result
            i.sized w.add_from.ensures.grown);
        wanting = subst (Wanting g xs (n + 1)) (sym w.wanted-is)
            (wanting_more g xs n c.loop-item.wanted w.add_from.new.self c.args.first_rules.now p
            w.in-Some.s _ c.requires.first_rules.exact h e w.in-Some.ensures.1
            w.add_from.ensures.adds
            i.wanting);
      }
      | in_default w ↦ record {
        sized = subst (IsSized 1 (length g.rules)) (sym w.wanted-is) i.sized;
        wanting = subst (Wanting g xs (n + 1)) (sym w.wanted-is)
            (wanting_end g xs n c.loop-item.wanted p h e w.in_default.ensures i.wanting);
      }
    ]
