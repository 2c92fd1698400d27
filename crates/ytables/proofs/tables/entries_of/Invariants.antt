use Rattle.std.proofs.Common.{ℕ, ◌≡◌, ◌<◌, ◌≤◌, length, None, slice_index_or, unwrap_or}
use Rattle.ytables.specs.declared.cell.Action.TheVariants.{Error}
use Rattle.ytables.proofs.tables.entries_of.Given as goal

abbrev pub invariant-loop-t : goal.invariant-loop-t
invariant-loop-t l = record {
  len : length l.entries.items ≡ length l.actions;
  done : (t : ℕ) → t < l.t → unwrap_or (slice_index_or l.entries.items t None) Error ≡
      slice_index_or l.actions t Error;
  free : (t : ℕ) → l.t ≤ t → slice_index_or l.entries.items t None ≡ None;
}
