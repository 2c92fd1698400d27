use Rattle.std.proofs.Common.{ℕ, List, subst, sym}
use Rattle.ysymbols.specs.Marking.{IsWorklist}
use Rattle.ysymbols.proofs.MarkingSteps.{worklist_none}
use Rattle.ysymbols.proofs.worklist.Worklist.new.Goals as goal

pub invariant_of-result : goal.invariant_of-result
invariant_of-result c =
    subst (λ (o : List ℕ). IsWorklist (record { marks = c.args.marks.items; order = o; taken = 0 }))
    (sym c.new.ensures.items) (worklist_none c.args.marks.items)
