use Rattle.std.proofs.Common.{ℕ, ◌≡◌, ◌<◌, length, slice_index}
use Rattle.ysymbols.specs.Grammar.{body_of}
use Rattle.ycode.proofs.rules.lengths_of.Given as goal

abbrev pub invariant-loop-r : goal.invariant-loop-r
invariant-loop-r l = record {
  len : length l.lengths.items ≡ l.r;
  lengths : (k : ℕ) → k < l.r → slice_index l.lengths.items k ≡ length (body_of l.grammar.bare k);
}
