use Rattle.std.proofs.Common.{◌≡◌, ◌<◌, ◌≤◌, ◌-◌, true, flat_map, get_or}
use Rattle.std.specs.List.{range_with_len}
use Rattle.ylalr.specs.declared.items.Item.{Item}
use Rattle.ylalr.specs.Collection.{Guide, IsGuide, state_of}
use Rattle.ylink.specs.Sends.{Sends}
use Rattle.ytables.specs.Report.{look_text}
use Rattle.ytables.proofs.report.put_looks.Given as goal

-- the lookaheads below t were sent, and t is one where it is a token
abbrev pub invariant-loop-t : goal.invariant-loop-t
invariant-loop-t g l = record {
  within : l.t ≤ l.tables.built.grammar.bare.tokens;
  looks : (u : Guide) → IsGuide l.tables.built u → (d : Item) →
      l.t < l.tables.built.grammar.bare.tokens →
      u.looks l.q (get_or (state_of l.tables.built l.q) l.index d) l.t ≡ true;
  sent : (u : Guide) → IsGuide l.tables.built u → (d : Item) →
      Sends g.W.Write.contents l.initial.link l.link true
      (flat_map (look_text l.tables u l.q (get_or (state_of l.tables.built l.q) l.index d))
      (range_with_len 0 l.t));
}

-- tokens are left
abbrev pub decreases-loop-t : goal.decreases-loop-t
decreases-loop-t g l = l.tables.built.grammar.bare.tokens - l.t
