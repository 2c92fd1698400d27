-- The states found so far, with what finds more.
use Rattle.ysymbols.specs.Grammar.{ContextFree}
use Rattle.ylalr.specs.declared.collection.Finder.{Finder}
use Rattle.ylalr.specs.Sets.{AreFirstRules, HasRules}
use Rattle.ylalr.specs.States.{FewStates}

-- the rules that symbols lead to are those of the grammar, the row is one of its rules, and the
-- states are some of its own
pub record FitFinder (g : ContextFree) (f : Finder) : Type 0 where
  pub first_rules : AreFirstRules g f.first_rules
  pub wanted : HasRules g 1 f.wanted
  pub states : FewStates g f.states
