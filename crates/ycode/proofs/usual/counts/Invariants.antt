use Rattle.std.proofs.Common.{ℕ, ◌≡◌, ◌<◌, ◌≤◌, length, take, Some, slice_index}
use Rattle.ycode.specs.Usual.{count_of}
use Rattle.ycode.proofs.usual.counts.Given as goal

abbrev pub invariant-loop-i : goal.invariant-loop-i
invariant-loop-i l = record {
  len : length l.counts.items ≡ l.bound;
  counts : (n : ℕ) → n < l.bound → slice_index l.counts.items n ≡ count_of (take l.i l.values) (Some n);
  few : (n : ℕ) → slice_index l.counts.items n ≤ l.i;
}
