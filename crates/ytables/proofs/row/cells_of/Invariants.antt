use Rattle.std.proofs.Common.{◌≡◌, ◌≤◌, ◌*◌, length}
use Rattle.ysymbols.specs.Grammar.{most_rules}
use Rattle.ylalr.specs.Collection.{Guide, IsGuide}
use Rattle.ytables.specs.Rows.{IsRowTo}
use Rattle.ytables.specs.Tables.{conflicts_to}
use Rattle.ytables.proofs.row.cells_of.Given as goal

abbrev pub invariant-loop-t : goal.invariant-loop-t
invariant-loop-t l = record {
  len : length l.actions.items ≡ l.t;
  shift_reduce : l.shift_reduce ≤ l.t * most_rules;
  reduce_reduce : l.reduce_reduce ≤ l.t * most_rules;
  row : (u : Guide) → IsGuide l.automaton u → IsRowTo l.automaton u l.q l.t l.actions.items
      l.shift_reduce l.reduce_reduce l.choice;
  conflicts : (u : Guide) → IsGuide l.automaton u →
      l.conflicts ≡ conflicts_to l.automaton u l.q l.t;
}
