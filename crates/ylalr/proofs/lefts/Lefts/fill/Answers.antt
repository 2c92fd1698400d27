use Rattle.std.proofs.Common.{◌≡◌, get_or, length, refl, arith}
use Rattle.ylalr.specs.declared.items.Item.{Item}
use Rattle.ylalr.specs.ItemRows.{At}
use Rattle.ybitsets.proofs.Turn.{same_default}
use Rattle.ylalr.proofs.LeftSteps.{noting_push, noting_all}
use Rattle.ylalr.proofs.lefts.Lefts.fill.Goals as goal

pub loop-k-preserved : goal.loop-k-preserved
loop-k-preserved c =
    let g = c.args.grammar.now.bare in
    let xs = c.args.items.now in
    let k = c.loop-k.k in
    let x : Item = get_or xs k (record { rule = 0; dot = 0 }) in
    let here : At xs c.args.rows.now x (get_or c.args.rows.now k 0) =
    record {
      index = k;
      within = c.loop-k-test.true;
      here = same_default xs k x
          (record { rule = 0; dot = 0 }) c.loop-k-test.true;
      row = refl;
    } in
    noting_push g xs c.args.rows.now k x (get_or c.args.rows.now k 0) c.loop-k.self c.note.new.self
    c.loop-k.invariant c.requires.rows (c.symbols-well_formed.ensures.well_formed.left x.rule
    (c.requires.range k (record { rule = 0; dot = 0 }) c.loop-k-test.true).0) here refl
    c.note.ensures.first c.note.ensures.moved

pub returns : goal.returns
returns c =
    let e : c.loop-k.k ≡ length c.args.items.now = omega arith in
    noting_all c.args.grammar.now.bare c.args.items.now c.args.rows.now c.loop-k.k c.loop-k.self e
    c.loop-k.invariant
