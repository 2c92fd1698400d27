use Rattle.std.proofs.Common.{ℕ, ◌<◌, slice_index}
use Rattle.ysymbols.specs.Marking.{IsMarked}
use Rattle.ysymbols.proofs.productive.advance.Given as goal

abbrev pub invariant-loop-at : goal.invariant-loop-at
invariant-loop-at l = (k : ℕ) → k < l.at → IsMarked l.marks (slice_index l.body k)
