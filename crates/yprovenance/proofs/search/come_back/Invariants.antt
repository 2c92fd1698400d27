use Rattle.std.proofs.Common.{ℕ, suc, ◌≡◌, ◌<◌, get_or, Some}
use Rattle.std.specs.List.{Contains}
use Rattle.ylalr.specs.Collection.{goto_in}
use Rattle.ybitsets.specs.Links.{links_of}
use Rattle.yprovenance.specs.Reasons.{place_of}
use Rattle.yprovenance.specs.Trail.{Extends, IsTrail, entry_at, places_of}
use Rattle.yprovenance.proofs.search.come_back.Given as goal

-- the states so far are asked
abbrev pub invariant-loop-state : goal.invariant-loop-state
invariant-loop-state l = record {
  trail : IsTrail l.automaton l.trail;
  extends : Extends l.initial.trail l.trail;
  asked : (k q d : ℕ) → k < l.state-index →
      get_or (links_of l.before (entry_at l.initial.trail l.index).place.state) k q ≡ q →
      (entry_at l.initial.trail l.index).place.item.dot ≡ suc d →
      goto_in l.automaton q l.symbol ≡ Some (entry_at l.initial.trail l.index).place.state →
      Contains (places_of l.trail)
      (place_of q (entry_at l.initial.trail l.index).place.item.rule d);
}
