use Rattle.std.proofs.Common.{◌≡◌, length}
use Rattle.ysymbols.specs.Marking.{AreOccurrences, lists_of}
use Rattle.ysymbols.proofs.occurrences.occurrences.Given as goal

abbrev pub invariant-loop-r : goal.invariant-loop-r
invariant-loop-r l = record {
  sized : length l.lists.items ≡ l.symbols;
  filed : AreOccurrences l.rules l.r l.symbols (lists_of l.lists);
}
