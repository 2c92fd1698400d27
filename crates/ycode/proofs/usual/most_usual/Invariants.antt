use Rattle.std.proofs.Common.{ℕ, ◌≡◌, ◌<◌, ◌≤◌, length, take, Some, slice_index}
use Rattle.ycode.specs.Usual.{count_of}
use Rattle.ycode.proofs.UsualSteps.{IsBest}
use Rattle.ycode.proofs.usual.most_usual.Given as goal

abbrev pub invariant-loop-i : goal.invariant-loop-i
invariant-loop-i l = record {
  len : length l.counts.items ≡ l.bound;
  below : 0 < l.bound → l.usual < l.bound;
  most : l.usual ≤ l.bound;
  counts : (n : ℕ) → n < l.bound → slice_index l.counts.items n ≡ count_of (take l.i l.values) (Some n);
  few : (n : ℕ) → slice_index l.counts.items n ≤ l.i;
  best : IsBest l.values l.i l.usual (slice_index l.counts.items l.usual);
}
