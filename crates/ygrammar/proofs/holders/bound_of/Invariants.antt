use Rattle.std.proofs.Common.{ℕ, ◌≡◌, ◌<◌, ◌≤◌, Some, slice_get}
use Rattle.ysymbols.specs.Grammar.{number_bound}
use Rattle.ygrammar.proofs.holders.bound_of.Given as goal

abbrev pub invariant-loop-one : goal.invariant-loop-one
invariant-loop-one l = record {
  few : l.bound ≤ number_bound;
  above : (k m : ℕ) → k < l.one-index → slice_get l.own k ≡ Some (Some m) → m < l.bound;
}
