use Rattle.std.proofs.Common.{ℕ, ◌<◌, ◌∙◌, Bool, None, is_some, length, get_or, sym, subst}
use Rattle.std.proofs.Common.{All}
use Rattle.std.proofs.lemmas.List.Elements.{All-push}
use Rattle.ycode.proofs.ListSteps.{filter_yes, filter_no}
use Rattle.ycode.proofs.packing.columns_of.Goals.{then-is_some+in_ok-push, else-is_some}
use Rattle.ycode.proofs.packing.columns_of.Goals as goal

pub loop-t-preserved : goal.loop-t-preserved
loop-t-preserved c =
    let row = c.args.row.now in
    let t = c.loop-t.t in
    let inv = c.loop-t.invariant in
    let has : ℕ → Bool = λ (s : ℕ). is_some (get_or row s None) in
    elim c.if-is_some.branch [
      | then-is_some+in_ok-push w ↦
          rw w.columns-is record {
            below = subst (All (λ (s : ℕ). s < length row)) (sym w.in_ok-push.ensures.items)
                (All-push (λ (s : ℕ). s < length row) c.loop-t.columns.items t inv.below
                c.loop-t-test.true);
            value = filter_yes has t c.loop-t.columns.items w.push.new.self.items
                w.in_ok-push.ensures.items (sym c.is_some.ensures ∙ w.if-is_some.true) inv.value;
          }
      | else-is_some w ↦
          rw w.columns-is record {
            below = inv.below;
            value = filter_no has t c.loop-t.columns.items
                (sym c.is_some.ensures ∙ w.if-is_some.false) inv.value;
          }
    ]
