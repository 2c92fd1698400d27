-- What a list of tokens is.
use Rattle.std.specs.Prelude.{ℕ, ◌<◌, List}
use Rattle.std.specs.List.{All}
use Rattle.ysymbols.specs.Grammar.{GrammarValue, error_token}
use Rattle.ytokens.specs.declared.tokens.Tokens.{Tokens}
use Rattle.ytokens.specs.Symbols.{token_count}

-- the symbols of a list of tokens
abbrev pub symbols_of : Tokens → List ℕ
symbols_of tokens = tokens.symbols.items

-- a token other than `$end` and `error`; tokens have the numbers below the number of tokens
abbrev pub IsInput : ℕ → ℕ → Type 0
IsInput tokens symbol = (error_token < symbol) × (symbol < tokens)

-- each of the symbols is an input token of the grammar
abbrev pub Fits : GrammarValue → List ℕ → Type 0
Fits v symbols = All (IsInput (token_count v)) symbols
