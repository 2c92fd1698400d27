use Rattle.std.proofs.Common.{◌≡◌, ◌+◌, length}
use Rattle.ytables.specs.Tables.{AreGotosTo}
use Rattle.ytables.proofs.gotos.all_gotos.Given as goal

abbrev pub invariant-loop-q : goal.invariant-loop-q
invariant-loop-q l = record {
  count : length l.gotos.rows ≡ l.q;
  width : l.gotos.width + l.tokens ≡ l.automaton.grammar.bare.symbols;
  gotos : AreGotosTo l.automaton l.q l.gotos.rows;
}
