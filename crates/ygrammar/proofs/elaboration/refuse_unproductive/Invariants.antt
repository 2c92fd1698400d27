use Rattle.std.proofs.Common.{ℕ, ◌<◌, ◌≤◌}
use Rattle.ysymbols.specs.Marking.{IsMarked}
use Rattle.ygrammar.proofs.elaboration.refuse_unproductive.Given as goal

abbrev pub invariant-loop-s : goal.invariant-loop-s
invariant-loop-s l = (k : ℕ) → l.tokens ≤ k → k < l.s → IsMarked l.marks.items k
