use Rattle.std.proofs.Common.{◌<◌, ◌∙◌, refl, sym, length, get_or, arith}
use Rattle.std.proofs.lemmas.List.Elements.{All-more}
use Rattle.ybitsets.specs.Marks.{Has}
use Rattle.ylalr.proofs.FormSteps.{adding_more}
use Rattle.ylalr.proofs.behind.add_form.Goals as goal

pub loop-s-preserved : goal.loop-s-preserved
loop-s-preserved c =
    let n = c.args.nullable.now in
    let x = c.args.form.now in
    let k = c.loop-s.s-index in
    let i = c.loop-s.invariant in
    let g = c.add_from.ensures.grown in
    let h : k < length x = omega arith in
    let m : Has n (get_or x k 0) = sym c.has.ensures ∙ c.if-not-has.false in
    record {
      passed = All-more (Has n) x k 0 h i.passed m;
      sized = record { rows = g.rows ∙ i.sized.rows; columns = g.columns ∙ i.sized.columns };
      adding = adding_more n c.args.first.now x c.args.rows.now c.loop-s.rows
          c.add_from.new.self c.args.to k (get_or x k 0) h refl i.passed c.add_from.ensures.adds
          i.adding;
    }
