use Rattle.std.proofs.Common.{ℕ, ◌≡◌, ◌<◌, length, map, slice_index}
use Rattle.std.specs.List.{range_with_len}
use Rattle.ylalr.specs.Collection.{state_of}
use Rattle.ycode.specs.Symbols.{StandsBefore, symbol_for}
use Rattle.ycode.proofs.symbols.symbols_of.Given as goal

abbrev pub invariant-loop-q : goal.invariant-loop-q
invariant-loop-q l = record {
  len : length l.symbols.items ≡ l.q;
  symbols : (k : ℕ) → k < l.q → StandsBefore l.tables.built.grammar.bare
      (state_of l.tables.built k) (slice_index l.symbols.items k);
  list : l.symbols.items ≡ map (λ k. symbol_for l.tables.built.grammar.bare
      (state_of l.tables.built k)) (range_with_len 0 l.q);
}
