use Rattle.std.proofs.Common.{◌≡◌, ◌<◌, ℕ, length, None, take, slice_index_or}
use Rattle.ycode.specs.Entries.{entry_at}
use Rattle.ycode.proofs.entry.spread.Given as goal

abbrev pub invariant-loop-entry : goal.invariant-loop-entry
invariant-loop-entry l = record {
  len : length l.row.items ≡ l.width;
  entries : (t : ℕ) → t < l.width → slice_index_or l.row.items t None ≡
      entry_at (take l.entry-index l.entries) t;
}
