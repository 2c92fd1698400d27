use Rattle.std.proofs.Common.{◌<◌, ◌∙◌, ap, false, length, replicate, subst, arith}
use Rattle.ybitsets.proofs.MarkSteps.{mark_size}
use Rattle.ylalr.proofs.BehindSteps.{behind_none, behind_more, marked_more, marked_same, Notes}
use Rattle.ylalr.proofs.behind.behind_of.Goals.{then-add_form, else-add_form}
use Rattle.ylalr.proofs.behind.behind_of.Goals as goal

pub loop-r-init : goal.loop-r-init
loop-r-init c =
    let g = c.args.grammar.now.bare in
    let s = c.in_ok-rows.ensures.sized in
    behind_none g c.args.nullable.now c.args.first.now c.in_ok-rows.rows
    c.in_ok-vanishing.vanishing (record {
      rows = s.rows ∙ c.rules.ensures;
      columns = s.columns ∙ c.token_count.ensures;
    }) c.in_ok-rows.ensures.empty
    (c.in_ok-vanishing.ensures ∙ ap (λ k. replicate k false) c.rules-2.ensures)

pub loop-r-preserved : goal.loop-r-preserved
loop-r-preserved c =
    let g = c.args.grammar.now.bare in
    let n = c.args.nullable.now in
    let m = c.args.first.now in
    let k = c.loop-r.r in
    let v = c.loop-r.vanishing in
    let u = c.if-add_form.vanishing in
    let a = c.add_form.ensures in
    let i = c.loop-r.invariant in
    let h : k < length v = omega (arith, i.marks) in
    behind_more g n m k c.loop-r.rows c.add_form.new.rows v u i
    (subst (λ y. Notes n m k c.loop-r.rows c.add_form.new.rows v u y) c.rest.ensures.value
    (record {
      sized = a.sized;
      grows = a.grows;
      sound = a.sound;
      every = a.every;
      marks = elim c.if-add_form.branch [
        | then-add_form w ↦ mark_size v u k (w.vanishing-is ∙ w.mark.ensures.set)
        | else-add_form w ↦ ap (λ (x : _). length x) w.vanishing-is
      ];
      marked = elim c.if-add_form.branch [
        | then-add_form w ↦ marked_more v u k h (w.vanishing-is ∙ w.mark.ensures.set)
            (a.vanishes.0 w.if-add_form.true)
        | else-add_form w ↦ marked_same v u k w.vanishing-is
            (λ all. let x = a.vanishes.1 all in let f = w.if-add_form.false in cc)
      ];
    }))
