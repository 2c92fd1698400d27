use Rattle.ylalr.specs.Fronts.{HasEach}
use Rattle.ybitsets.specs.Rows.{IsSized}
use Rattle.ylalr.proofs.first.own_tokens.Given as goal

abbrev pub invariant-loop-t : goal.invariant-loop-t
invariant-loop-t l = record {
  sized : IsSized l.grammar.bare.symbols l.grammar.bare.tokens l.first;
  own : HasEach (λ t. t) l.t l.first;
}
