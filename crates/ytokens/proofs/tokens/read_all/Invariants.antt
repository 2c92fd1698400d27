use Rattle.std.proofs.Common.{ℕ, List, ◌≤◌, length, Result}
use Rattle.std.specs.List.{All}
use Rattle.ytokens.specs.TokensFile.{most_tokens}
use Rattle.ytokens.specs.declared.tokens.TokenFault.{TokenFault}
use Rattle.ytokens.specs.TokensFile.{Outcome}
use Rattle.ytokens.specs.Symbols.{symbol_named, token_count}
use Rattle.ytokens.specs.Tokens.{IsInput}
use Rattle.ytokens.proofs.OneOutcome.{after_tokens}
use Rattle.ytokens.proofs.tokens.read_all.Given as goal

-- whatever is read of the rest completes the whole
abbrev pub invariant-loop-symbols : goal.invariant-loop-symbols
invariant-loop-symbols l = record {
  few : length l.symbols.items ≤ most_tokens;
  inputs : All (IsInput (token_count l.grammar)) l.symbols.items;
  told : (r : Result (List ℕ) TokenFault)
      → Outcome (symbol_named l.grammar) (token_count l.grammar) (length l.symbols.items) l.rest r
      → Outcome (symbol_named l.grammar) (token_count l.grammar) 0 l.initial.bytes
      (after_tokens l.symbols.items r);
}

-- each word takes a byte
abbrev pub decreases-loop-symbols : goal.decreases-loop-symbols
decreases-loop-symbols l = length l.rest
