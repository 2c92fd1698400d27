use Rattle.std.proofs.Common.{◌≡◌, ◌<◌, length, nat_lt, slice_index}
use Rattle.std.specs.List.{best_of, range_with_len}
use Rattle.ycode.proofs.usual.greatest_place.Given as goal

abbrev pub invariant-loop-i : goal.invariant-loop-i
invariant-loop-i l = record {
  best : l.best ≡ best_of (λ i best. nat_lt (slice_index l.numbers best) (slice_index l.numbers i))
      0 (range_with_len 0 l.i);
  within : 0 < length l.numbers → l.best < length l.numbers;
}
