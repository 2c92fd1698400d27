use Rattle.std.proofs.Common.{ℕ, ◌≡◌, ◌<◌, ◌≤◌, ◌^◌, Some, slice_get, length}
use Rattle.ycode.specs.Combs.{AreAtMost}
use Rattle.ycode.specs.Translation.{TranslatesTo, bound_for}
use Rattle.ycode.proofs.translate.translation.Given as goal

abbrev pub invariant-loop-s : goal.invariant-loop-s
invariant-loop-s l = record {
  room : (k n : ℕ) → k < l.tokens → slice_get l.grammar.numbers k ≡ Some n →
      n < length l.symbols.items;
  translates : TranslatesTo l.s l.grammar.numbers l.tokens l.symbols.items;
  most : AreAtMost l.tokens l.symbols.items;
  few : length l.symbols.items ≤ 2 ^ 32;
  len : length l.symbols.items ≡ bound_for l.grammar.numbers;
}
