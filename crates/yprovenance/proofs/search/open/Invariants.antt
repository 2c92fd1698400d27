use Rattle.std.proofs.Common.{ℕ, ◌≡◌, ◌<◌, get_or}
use Rattle.ylalr.specs.declared.items.Item.{Item}
use Rattle.ylalr.specs.Collection.{state_of}
use Rattle.yprovenance.specs.Trail.{Extends, IsTrail, IsTried, entry_at}
use Rattle.yprovenance.proofs.search.open.Given as goal

-- the items so far are tried
abbrev pub invariant-loop-item : goal.invariant-loop-item
invariant-loop-item l = record {
  trail : IsTrail l.automaton l.trail;
  extends : Extends l.initial.trail l.trail;
  tried : (k : ℕ) (i : Item) → k < l.item-index →
      get_or (state_of l.automaton (entry_at l.initial.trail l.index).place.state) k i ≡ i →
      IsTried l.automaton l.token l.trail (entry_at l.initial.trail l.index).place i;
}
