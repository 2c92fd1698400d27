use Rattle.std.proofs.Common.{◌-◌, ◌≤◌}
use Rattle.ylalr.proofs.tokens.token_count.Given as goal

-- each symbol so far is a token
abbrev pub invariant-loop-count : goal.invariant-loop-count
invariant-loop-count l = l.count ≤ l.grammar.bare.tokens

-- tokens are left to count
abbrev pub decreases-loop-count : goal.decreases-loop-count
decreases-loop-count l = l.grammar.bare.tokens - l.count
