use Rattle.std.proofs.Common.{ℕ, ◌≡◌, ◌-◌, slice_index, vec_len}
use Rattle.ycode.proofs.slots.grow.Given as goal

abbrev pub invariant-loop-words : goal.invariant-loop-words
invariant-loop-words l = (k : ℕ) → slice_index l.words.items k ≡ slice_index l.initial.words.items k

abbrev pub decreases-loop-words : goal.decreases-loop-words
decreases-loop-words l = l.count - vec_len l.words
