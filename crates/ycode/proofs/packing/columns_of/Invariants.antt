use Rattle.std.proofs.Common.{◌≡◌, ◌<◌, length, All, None, is_some, slice_index_or}
use Rattle.std.specs.List.{filter, range_with_len}
use Rattle.ycode.proofs.packing.columns_of.Given as goal

abbrev pub invariant-loop-t : goal.invariant-loop-t
invariant-loop-t l = record {
  below : All (λ t. t < length l.row) l.columns.items;
  value : l.columns.items ≡
      filter (λ t. is_some (slice_index_or l.row t None)) (range_with_len 0 l.t);
}
