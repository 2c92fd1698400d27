use Rattle.std.proofs.Common.{◌≡◌, length}
use Rattle.ylalr.proofs.ItemRowSteps.{Placing}
use Rattle.ylalr.proofs.item_rows.ItemRows.of.Given as goal

abbrev pub invariant-loop-q : goal.invariant-loop-q
invariant-loop-q l = record {
  sized : length l.lefts ≡ l.grammar.bare.symbols;
  placing : Placing l.grammar.bare l.states l.q l.rows.items l.total;
}
