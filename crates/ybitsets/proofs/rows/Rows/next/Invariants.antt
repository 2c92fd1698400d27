use Rattle.std.proofs.Common.{ℕ, ◌-◌, ◌≤◌, ◌<◌}
use Rattle.ybitsets.specs.Rows.{Holds}
use Rattle.ybitsets.proofs.rows.Rows.next.Given as goal

-- the row has nothing from c up to the column
abbrev pub invariant-loop-at : goal.invariant-loop-at
invariant-loop-at l = record {
  further : l.c ≤ l.at;
  within : l.at ≤ l.self.width;
  none : (k : ℕ) → l.c ≤ k → k < l.at → Holds l.self l.r k → ⊥;
}

-- columns are left
abbrev pub decreases-loop-at : goal.decreases-loop-at
decreases-loop-at l = l.self.width - l.at
