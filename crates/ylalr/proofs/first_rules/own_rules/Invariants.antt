use Rattle.std.proofs.Common.{length}
use Rattle.ysymbols.specs.Grammar.{left_of}
use Rattle.ylalr.specs.Fronts.{HasEach}
use Rattle.ybitsets.specs.Rows.{IsSized}
use Rattle.ylalr.proofs.first_rules.own_rules.Given as goal

abbrev pub invariant-loop-r : goal.invariant-loop-r
invariant-loop-r l = record {
  sized : IsSized l.grammar.bare.symbols (length l.grammar.bare.rules) l.rows;
  own : HasEach (left_of l.grammar.bare) l.r l.rows;
}
