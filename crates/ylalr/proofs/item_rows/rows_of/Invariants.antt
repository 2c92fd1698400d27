use Rattle.std.proofs.Common.{take}
use Rattle.ylalr.proofs.ItemRowSteps.{Filling}
use Rattle.ylalr.proofs.item_rows.rows_of.Given as goal

abbrev pub invariant-loop-k : goal.invariant-loop-k
invariant-loop-k l = Filling l.grammar.bare (take l.k l.items) l.rows l.first l.end l.lefts
