use Rattle.std.proofs.Common.{ℕ, ◌≡◌, ◌<◌, ◌≤◌, ◌+◌, None}
use Rattle.ylalr.specs.Collection.{goto_in}
use Rattle.ycode.specs.Cells.{states_of, tokens_of}
use Rattle.ycode.specs.Entries.{entry_at, entries_for, EntriesAtMost}
use Rattle.ycode.specs.Targets.{beside}
use Rattle.ycode.proofs.targets.entries_of.Given as goal

abbrev pub invariant-loop-q : goal.invariant-loop-q
invariant-loop-q l = record {
  entries : (s : ℕ) → s < l.q → entry_at l.entries s ≡
      beside l.usual (goto_in l.tables.built s (tokens_of l.tables + l.x));
  rest : (s : ℕ) → l.q ≤ s → entry_at l.entries s ≡ None;
  most : EntriesAtMost (states_of l.tables) l.entries;
  list : l.entries ≡ entries_for
      (λ s. beside l.usual (goto_in l.tables.built s (tokens_of l.tables + l.x))) l.q;
}
