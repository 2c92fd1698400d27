use Rattle.std.proofs.Common.{◌≡◌, ◌<◌, ◌+◌, List, length, get_or, subst, sym, arith}
use Rattle.ylalr.specs.declared.items.Item.{Item}
use Rattle.ylalr.proofs.ListSteps.{Opening, Merging, Until, merge_step, merged}
use Rattle.ybitsets.proofs.Turn.{same_default}
use Rattle.ylalr.proofs.closure.merge.Goals as goal

pub loop-item-preserved : goal.loop-item-preserved
loop-item-preserved c =
    let xs = c.args.kernel.now in
    let n = c.loop-item.item-index in
    let p : Item = get_or xs n (record { rule = 0; dot = 0 }) in
    let h : n < length xs = omega arith in
    let e : p ≡ get_or xs n p = same_default xs n (record { rule = 0; dot = 0 }) p h in
    let u : Until p c.until.result = record {
      first = c.until.ensures.first;
      later =
          c.until.ensures.later;
    } in
    let s = c.in_ok-push_first_items.ensures in
    let o : Opening c.args.wanted.now c.loop-item.at c.until.result c.loop-item.items
    c.push_first_items.new.items = record {
      ascending = s.ascending;
      below = s.below;
      exact =
          s.exact;
    } in
    record {
      merging = subst (λ (ys : List Item). Merging c.args.wanted.now xs (n + 1) (p.rule + 1) ys)
          (sym c.in_ok-push.ensures) (merge_step c.args.wanted.now xs c.loop-item.items
          c.push_first_items.new.items n c.loop-item.at c.until.result p c.requires.ascending
          c.loop-item.invariant.merging h e u o);
      within = (let r = c.requires.range n (record { rule = 0; dot = 0 }) h in omega (arith, r));
    }

pub returns-clause-exact : goal.returns-clause-exact
returns-clause-exact c =
    let s = c.in_ok-push_first_items-2.ensures in
    let o : Opening c.args.wanted.now c.loop-item.at c.args.rules c.loop-item.items
    c.push_first_items-2.new.items = record {
      ascending = s.ascending;
      below = s.below;
      exact =
          s.exact;
    } in
    let e : c.loop-item.item-index ≡ length c.args.kernel.now = omega arith in
    merged c.args.wanted.now c.args.kernel.now c.loop-item.items c.push_first_items-2.new.items
    c.loop-item.item-index c.loop-item.at c.args.rules e c.requires.sized.columns
    c.loop-item.invariant.merging o
