use Rattle.std.proofs.Common.{ℕ, ◌≡◌, ◌<◌, get_or}
use Rattle.std.specs.List.{Contains}
use Rattle.ylalr.specs.declared.items.Item.{Item}
use Rattle.ylalr.specs.Collection.{bare_of, state_of}
use Rattle.ybitsets.specs.Links.{AreLinks, Link}
use Rattle.yprovenance.specs.Leads.{IsOpening}
use Rattle.yprovenance.proofs.leads.openings.Given as goal

-- the links of the items so far
abbrev pub invariant-loop-item : goal.invariant-loop-item
invariant-loop-item l = record {
  links : AreLinks (bare_of l.automaton).symbols l.links;
  every : (k : ℕ) (i : Item) (p t : ℕ) → k < l.item-index →
      get_or (state_of l.automaton l.q) k i ≡ i → IsOpening l.automaton i p t → Link l.links p t;
  only : (p t : ℕ) → Link l.links p t →
      (i : Item) × Contains (state_of l.automaton l.q) i × IsOpening l.automaton i p t;
}
