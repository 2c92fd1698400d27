use Rattle.std.proofs.Common.{ℕ, ◌<◌, ◌≤◌, length}
use Rattle.yprovenance.specs.Trail.{Extends, IsTrail, IsVisited, entry_at}
use Rattle.yprovenance.proofs.search.search.Given as goal

-- the entries so far are visited
abbrev pub invariant-loop-index : goal.invariant-loop-index
invariant-loop-index l = record {
  trail : IsTrail l.automaton l.trail;
  extends : Extends l.initial.trail l.trail;
  within : l.index ≤ length l.trail;
  visited : (k : ℕ) → k < l.index →
      IsVisited l.automaton l.token l.trail (entry_at l.trail k).place;
}
