use Rattle.std.proofs.Common.{◌≡◌, ◌≤◌, ◌-◌, max, vec_len}
use Rattle.ycode.specs.Packing.{IsGrown}
use Rattle.ycode.proofs.packing.grow.Given as goal

abbrev pub invariant-loop-values : goal.invariant-loop-values
invariant-loop-values l = record {
  grown : IsGrown l.width l.initial.checks.items l.checks.items l.initial.values.items
      l.values.items l.initial.begun.items l.begun.items;
  most : vec_len l.checks ≤ max (vec_len l.initial.checks) l.end;
  even : vec_len l.initial.values ≡ vec_len l.initial.checks →
      vec_len l.values ≡ vec_len l.checks;
  marks : vec_len l.initial.begun ≡ vec_len l.initial.checks →
      vec_len l.begun ≡ vec_len l.checks;
}

abbrev pub decreases-loop-values : goal.decreases-loop-values
decreases-loop-values l = l.end - vec_len l.checks
