use Rattle.std.proofs.Common.{ℕ, ◌≡◌, ◌<◌, ◌≤◌, ◌+◌, None}
use Rattle.ycode.specs.Cells.{wanted_at, states_of, rules_of}
use Rattle.ycode.specs.Entries.{entry_at, entries_for, EntriesAtMost}
use Rattle.ycode.proofs.cells.entries_of.Given as goal

abbrev pub invariant-loop-t : goal.invariant-loop-t
invariant-loop-t l = record {
  entries : (s : ℕ) → s < l.t → entry_at l.entries s ≡ wanted_at l.policy l.tables l.usual l.q s;
  rest : (s : ℕ) → l.t ≤ s → entry_at l.entries s ≡ None;
  most : EntriesAtMost (states_of l.tables + rules_of l.tables) l.entries;
  list : l.entries ≡ entries_for (wanted_at l.policy l.tables l.usual l.q) l.t;
}
