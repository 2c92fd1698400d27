use Rattle.std.proofs.Common.{ℕ, ◌≡◌, ◌<◌, ◌≤◌, ◌^◌, Some, slice_get, take}
use Rattle.ycode.specs.Translation.{bound_for}
use Rattle.ycode.proofs.translate.bound_of.Given as goal

abbrev pub invariant-loop-s : goal.invariant-loop-s
invariant-loop-s l = record {
  above : (k n : ℕ) → k < l.s → slice_get l.grammar.numbers k ≡ Some n → n < l.bound;
  few : l.bound ≤ 2 ^ 32;
  is : l.bound ≡ bound_for (take l.s l.grammar.numbers);
}
