use Rattle.std.proofs.Common.{◌≡◌, length}
use Rattle.ysymbols.specs.Marking.{AreByLeft, lists_of}
use Rattle.ysymbols.proofs.occurrences.rules_by_left.Given as goal

abbrev pub invariant-loop-r : goal.invariant-loop-r
invariant-loop-r l = record {
  sized : length l.lists.items ≡ l.symbols;
  filed : AreByLeft l.rules l.r l.symbols (lists_of l.lists);
}
