use Rattle.ycode.specs.Cells.{AreCells, AreSets}
use Rattle.ycode.proofs.cells.all_cells.Given as goal

abbrev pub invariant-loop-q : goal.invariant-loop-q
invariant-loop-q l = record {
  cells : AreCells l.policy l.tables l.q l.usual.items l.sets.items l.known l.rows.items;
  sets : AreSets l.policy l.tables l.q l.known;
}
