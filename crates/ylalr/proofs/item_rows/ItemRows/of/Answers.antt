use Rattle.std.proofs.Common.{◌≡◌, ◌<◌, List, sym, subst, ap, arith, length}
use Rattle.ylalr.specs.declared.items.Item.{Item}
use Rattle.ylalr.specs.States.{set_at}
use Rattle.ylalr.specs.Sets.{InRange}
use Rattle.ylalr.specs.ItemRows.{FillRows}
use Rattle.ylalr.proofs.ItemRowSteps.{placing_push, placing_all, few_items}
use Rattle.ylalr.proofs.item_rows.ItemRows.of.Goals as goal

pub rows_of-requires-clause-range : goal.rows_of-requires-clause-range
rows_of-requires-clause-range c =
    let h : c.loop-q.q < length c.args.states.now.closures = omega arith in
    subst (InRange c.args.grammar.now.bare) (sym c.items.ensures)
    (c.requires.states.each c.loop-q.q h).range

pub rows_of-requires-clause-room : goal.rows_of-requires-clause-room
rows_of-requires-clause-room c =
    let h : c.loop-q.q < length c.args.states.now.closures = omega arith in
    let s = c.requires.states.each c.loop-q.q h in
    let n = few_items c.args.grammar.now.bare c.symbols.ensures.well_formed
    (set_at c.args.states.now.closures c.loop-q.q) s.order s.range in
    let e = ap (λ (w : List Item). length w) c.items.ensures in
    let p = c.loop-q.invariant.placing.small in
    let few = c.requires.few in
    omega (arith, h, n, e, p, few)

pub loop-q-preserved : goal.loop-q-preserved
loop-q-preserved c =
    let h : c.loop-q.q < length c.args.states.now.closures = omega arith in
    let s = c.requires.states.each c.loop-q.q h in
    let g = c.args.grammar.now.bare in
    let n = few_items g c.symbols.ensures.well_formed (set_at c.args.states.now.closures c.loop-q.q)
    s.order s.range in
    record {
      sized = c.in_ok-list.ensures.sized;
      placing = placing_push g c.args.states.now c.loop-q.q c.loop-q.rows.items
          c.push.new.self.items c.in_ok-list.list c.loop-q.total c.in_ok-list.end
          c.loop-q.invariant.placing c.in_ok-push.ensures.items
          (subst (λ (w : List Item). FillRows g w c.in_ok-list.list c.loop-q.total c.in_ok-list.end)
          c.items.ensures c.in_ok-list.ensures.rows) n;
    }

pub returns : goal.returns
returns c =
    let e : c.loop-q.q ≡ length c.args.states.now.closures = omega arith in
    placing_all c.args.grammar.now.bare c.args.states.now c.loop-q.q
    (record { rows = c.loop-q.rows.items; total = c.loop-q.total }) e c.requires.few
    c.loop-q.invariant.placing
