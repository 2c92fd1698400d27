use Rattle.std.proofs.Common.{◌≡◌, ◌≤◌}
use Rattle.ylalr.specs.Collection.{Guide, IsGuide}
use Rattle.yprovenance.specs.Candidates.{candidates_in}
use Rattle.yprovenance.proofs.candidates.next_rule.Given as goal

-- no item before this one is a candidate
abbrev pub invariant-loop-at : goal.invariant-loop-at
invariant-loop-at l = record {
  further : l.index ≤ l.at;
  none : (u : Guide) → IsGuide l.tables.built u → candidates_in l.tables.built u l.q l.t l.index ≡
      candidates_in l.tables.built u l.q l.t l.at;
}
