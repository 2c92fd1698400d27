-- What holds of the LR(0) automaton that the lookaheads are made from, and of the whole automaton.
use Rattle.ylalr.specs.declared.looks.Lr0.{Lr0}
use Rattle.ylalr.specs.Collection.{Collection}
use Rattle.ybitsets.specs.Rows.{BitRows, IsSized}
use Rattle.ylalr.specs.Gotos.{goto_of}
use Rattle.ylalr.specs.Looks.{Fit, SoundLooks, ClosedLooks}

-- what callers see of it
abbrev pub collection_of : Lr0 → Collection
collection_of p = record { grammar = p.grammar; states = p.states.closures; gotos = p.gotos }

-- all of it is of one grammar
abbrev pub FitLr0 : Lr0 → Type 0
FitLr0 p = Fit p.grammar.bare p.nullable p.first p.behind p.states p.gotos p.item_rows

-- what holds of it and its lookaheads
pub record Whole (p : Lr0) (m : BitRows) : Type 0 where
  pub fit : FitLr0 p
  pub sized : IsSized p.item_rows.total p.grammar.bare.tokens m
  pub sound : SoundLooks p.grammar.bare (goto_of p.gotos) p.states p.item_rows m
  pub closed : ClosedLooks p.grammar.bare (goto_of p.gotos) p.states p.item_rows m
