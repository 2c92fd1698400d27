use Rattle.std.proofs.Common.{ℕ, ◌≡◌, ◌<◌, ◌+◌, length, slice_index}
use Rattle.ysymbols.specs.Grammar.{left_of}
use Rattle.ycode.proofs.rules.lefts_of.Given as goal

abbrev pub invariant-loop-r : goal.invariant-loop-r
invariant-loop-r l = record {
  len : length l.lefts.items ≡ l.r;
  lefts : (k : ℕ) → k < l.r → l.tokens + slice_index l.lefts.items k ≡ left_of l.grammar.bare k;
}
