use Rattle.std.proofs.Common.{ℕ, ◌≡◌, ◌<◌, get_or}
use Rattle.std.specs.List.{Contains}
use Rattle.ylalr.specs.declared.items.Item.{Item}
use Rattle.ylalr.specs.Collection.{state_of}
use Rattle.ylalr.specs.Sets.{IsAscending}
use Rattle.yprovenance.specs.Leads.{IsAmong}
use Rattle.yprovenance.proofs.leads.items_among.Given as goal

-- those of the items so far, in their order
abbrev pub invariant-loop-item : goal.invariant-loop-item
invariant-loop-item l = record {
  order : IsAscending l.found.items;
  found : (i : Item) → Contains l.found.items i → (k : ℕ) × (k < l.item-index) ×
      (get_or (state_of l.automaton l.q) k i ≡ i) × IsAmong l.automaton l.symbols i;
  every : (k : ℕ) (i : Item) → k < l.item-index → get_or (state_of l.automaton l.q) k i ≡ i →
      IsAmong l.automaton l.symbols i → Contains l.found.items i;
}
