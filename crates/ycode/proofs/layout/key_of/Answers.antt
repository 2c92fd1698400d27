use Rattle.std.proofs.Common.{ℕ, ◌∙◌, List, [], ◌∷◌, ◌++◌, get_or, sym, ap}
use Rattle.ycode.specs.declared.entry.Entry.{Entry}
use Rattle.ycode.proofs.LayoutSteps.{key_more}
use Rattle.ycode.proofs.layout.key_of.Goals as goal

pub loop-entry-preserved : goal.loop-entry-preserved
loop-entry-preserved c =
    let es = c.args.entries.now in
    let i = c.loop-entry.entry-index in
    let d : Entry = record { column = 0; number = 0 } in
    c.in_ok-push-2.ensures.items ∙
    (ap (λ (l : List ℕ). l ++ (get_or es i d).number ∷ []) (c.in_ok-push.ensures.items ∙
    ap (λ (l : List ℕ). l ++ (get_or es i d).column ∷ []) c.loop-entry.invariant) ∙
    sym (key_more es i d c.loop-entry-test.true))
