use Rattle.std.proofs.Common.{ℕ, ◌<◌, length}
use Rattle.ybitsets.specs.Links.{AreLinks}
use Rattle.yprovenance.specs.Trail.{IsListed}
use Rattle.yprovenance.proofs.before.before_of.Given as goal

abbrev pub invariant-loop-state : goal.invariant-loop-state
invariant-loop-state l = record {
  links : AreLinks (length l.automaton.states) l.before;
  every : (q : ℕ) → q < l.state → IsListed l.automaton l.before q;
}
