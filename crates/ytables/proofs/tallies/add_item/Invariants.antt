use Rattle.std.proofs.Common.{ℕ, ◌≡◌, ◌-◌, ◌≤◌, ◌<◌, length, get_or, true}
use Rattle.ylalr.specs.declared.items.Item.{Item}
use Rattle.ylalr.specs.Collection.{Guide, IsGuide, state_of}
use Rattle.ytables.specs.Tally.{no_tally}
use Rattle.ytables.specs.Tallies.{added}
use Rattle.ytables.proofs.tallies.add_item.Given as goal

-- below t the rule is added where the item looks, from t on nothing is
abbrev pub invariant-loop-t : goal.invariant-loop-t
invariant-loop-t l = record {
  len : length l.tallies ≡ length l.initial.tallies;
  within : l.t ≤ l.automaton.grammar.bare.tokens;
  looks : (u : Guide) → IsGuide l.automaton u → (d : Item) → l.t < l.automaton.grammar.bare.tokens →
      u.looks l.q (get_or (state_of l.automaton l.q) l.index d) l.t ≡ true;
  done : (u : Guide) → IsGuide l.automaton u → (d : Item) → (t : ℕ) → t < l.t →
      get_or l.tallies t no_tally ≡ added l.automaton u l.q
      (get_or (state_of l.automaton l.q) l.index d) l.levels l.initial.tallies t;
  rest : (t : ℕ) → l.t ≤ t → get_or l.tallies t no_tally ≡ get_or l.initial.tallies t no_tally;
}

-- tokens are left
abbrev pub decreases-loop-t : goal.decreases-loop-t
decreases-loop-t l = l.automaton.grammar.bare.tokens - l.t
