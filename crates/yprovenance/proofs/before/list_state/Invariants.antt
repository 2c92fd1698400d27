use Rattle.std.proofs.Common.{ℕ, ◌≡◌, ◌<◌, ◌∷◌, List, length, drop, get_or, Some}
use Rattle.ysymbols.specs.Grammar.{body_of}
use Rattle.ylalr.specs.declared.items.Item.{Item}
use Rattle.ylalr.specs.Collection.{bare_of, state_of, goto_in}
use Rattle.ybitsets.specs.Links.{AreLinks, Link, MoreLinks}
use Rattle.yprovenance.proofs.before.list_state.Given as goal

-- the state is listed where the items so far lead
abbrev pub invariant-loop-item : goal.invariant-loop-item
invariant-loop-item l = record {
  links : AreLinks (length l.automaton.states) l.before;
  kept : MoreLinks l.initial.before l.before;
  every : (k n x : ℕ) (i : Item) (y : List ℕ) → k < l.item-index →
      get_or (state_of l.automaton l.state) k i ≡ i →
      drop i.dot (body_of (bare_of l.automaton) i.rule) ≡ x ∷ y →
      goto_in l.automaton l.state x ≡ Some n → Link l.before n l.state;
}
