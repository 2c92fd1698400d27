use Rattle.std.proofs.Common.{ℕ, ◌≡◌, ◌<◌, ◌-◌, false}
use Rattle.ycode.specs.Packing.{can_begin}
use Rattle.ycode.proofs.finder.Finder.place_for.Given as goal

abbrev pub invariant-loop-d : goal.invariant-loop-d
invariant-loop-d l = (e : ℕ) → e < l.d → can_begin l.packing l.columns e ≡ false

abbrev pub decreases-loop-d : goal.decreases-loop-d
decreases-loop-d l = l.end - l.d
