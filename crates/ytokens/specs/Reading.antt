-- What reading a tokens file answers.
use Rattle.std.specs.Prelude.{ℕ, ◌≡◌, List, [], Result, Ok, Err}
use Rattle.ysymbols.specs.Names.{printed_literal}
use Rattle.ysymbols.specs.Grammar.{GrammarValue}
use Rattle.ytokens.specs.declared.tokens.Tokens.{Tokens}
use Rattle.ytokens.specs.declared.tokens.TokenFault.{TokenFault}
use Rattle.ytokens.specs.declared.tokens.TokenFault.TheVariants as faults
use Rattle.ytokens.specs.declared.token_words.Front.{Front as CodeFront}
use Rattle.ytokens.specs.declared.token_words.Front.TheVariants as fronts
use Rattle.ytokens.specs.declared.tokens.Next.{Next}
use Rattle.ytokens.specs.declared.tokens.Next.TheVariants as nexts
use Rattle.ytokens.specs.Symbols.{symbol_named, token_count}
use Rattle.ytokens.specs.Tokens.{symbols_of}
use Rattle.ytokens.specs.TokensFile.{Front, nothing, word, broken, Outcome, Says, token, answer}

-- the tokens of a file, or its first fault
abbrev pub TokensOf : GrammarValue → List ℕ → Result (List ℕ) TokenFault → Type 0
TokensOf v bytes result = Outcome (symbol_named v) (token_count v) 0 bytes result

-- the answer is what the file has, or no memory
abbrev pub Gives : GrammarValue → List ℕ → Result Tokens TokenFault → Type 0
Gives v bytes (Ok tokens) = TokensOf v bytes (Ok (symbols_of tokens))
Gives v bytes (Err (faults.Unknown place)) = TokensOf v bytes (Err (faults.Unknown place))
Gives v bytes (Err (faults.NotInput place)) = TokensOf v bytes (Err (faults.NotInput place))
Gives v bytes (Err faults.TooMany) = TokensOf v bytes (Err faults.TooMany)
Gives v bytes (Err faults.Memory) = Unit {0}
Gives v bytes (Err (faults.BadLiteral place)) = TokensOf v bytes (Err (faults.BadLiteral place))

-- what the file has is the answer, unless memory runs out
abbrev pub Agrees : Result Tokens TokenFault → Result (List ℕ) TokenFault → Type 0
Agrees (Ok tokens) r = r ≡ Ok (symbols_of tokens)
Agrees (Err (faults.Unknown place)) r = r ≡ Err (faults.Unknown place)
Agrees (Err (faults.NotInput place)) r = r ≡ Err (faults.NotInput place)
Agrees (Err faults.TooMany) r = r ≡ Err faults.TooMany
Agrees (Err faults.Memory) r = Unit {0}
Agrees (Err (faults.BadLiteral place)) r = r ≡ Err (faults.BadLiteral place)

-- what the code finds at the front
abbrev pub front_view : CodeFront → Front
front_view fronts.Nothing = nothing
front_view (fronts.Word name rest) = word name.now rest.now
front_view (fronts.Literal value rest) = word (printed_literal value) rest.now
front_view fronts.Broken = broken

-- what the code finds next
abbrev pub next_view : Next → Says
next_view nexts.End = answer (Ok [])
next_view (nexts.Token symbol rest) = token symbol rest.now
next_view (nexts.Fault fault) = answer (Err fault)
