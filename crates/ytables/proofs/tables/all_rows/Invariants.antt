use Rattle.std.proofs.Common.{◌≡◌, ◌≤◌, ◌*◌, length}
use Rattle.ylalr.specs.Collection.{Guide, IsGuide}
use Rattle.ytables.specs.Rows.{most_in_row}
use Rattle.ytables.specs.Tables.{AreRowsTo, AreSumsTo, AreConflicts, act_at}
use Rattle.ytables.specs.Tables.{rule_at}
use Rattle.ytables.proofs.tables.all_rows.Given as goal

abbrev pub invariant-loop-q : goal.invariant-loop-q
invariant-loop-q l = record {
  count : length l.actions.rows ≡ l.q;
  width : l.actions.width ≡ l.tokens;
  defaults : length l.defaults.items ≡ l.q;
  listed : length l.conflicts.items ≡ l.q;
  shift_reduce : l.shift_reduce ≤ l.q * most_in_row;
  reduce_reduce : l.reduce_reduce ≤ l.q * most_in_row;
  rows : (u : Guide) → IsGuide l.automaton u → AreRowsTo l.automaton u l.q
      (act_at l.actions.rows l.defaults.items) (rule_at l.defaults.items);
  sums : (u : Guide) → IsGuide l.automaton u → AreSumsTo l.automaton u l.q l.shift_reduce
      l.reduce_reduce l.chosen;
  conflicts : (u : Guide) → IsGuide l.automaton u → AreConflicts l.automaton u l.q l.conflicts.items;
}
