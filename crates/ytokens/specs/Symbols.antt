-- The symbols of a grammar that an input can name.
use Rattle.std.specs.Prelude.{ℕ, ◌&&◌, Bool, nat_lt, List, Option}
use Rattle.ysymbols.specs.Grammar.{GrammarValue, error_token}
use Rattle.ysymbols.specs.Names.{find_in}

-- the number of the symbol with this printed name
abbrev pub symbol_named : GrammarValue → List ℕ → Option ℕ
symbol_named v name = find_in v.names name

-- how many tokens there are; they have the lowest numbers
abbrev pub token_count : GrammarValue → ℕ
token_count v = v.bare.tokens

-- input tokens are those other than `$end` and `error`; tokens have the numbers below `tokens`
abbrev pub is_input : ℕ → ℕ → Bool
is_input tokens symbol = nat_lt error_token symbol && nat_lt symbol tokens
