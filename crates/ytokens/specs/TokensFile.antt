-- A tokens file: words between blanks, and the input tokens that they name.
use Rattle.std.specs.Prelude.{ℕ, suc, ◌≡◌, ◌<◌, nat_lt, ◌==◌, ◌||◌, not, Bool, true, false}
use Rattle.std.specs.Prelude.{List, [], ◌∷◌, ◌++◌, length, Option, Some, None, Result, Ok, Err}
use Rattle.std.specs.Prelude.{if◌then◌else◌, ◌-◌, slice_index_or}
use Prim.Native.Nat.{zero}
use Rattle.ylexemes.specs.Bytes.{is_blank, all_pass, begins}
use Rattle.ylexemes.specs.Lexemes.{LiteralAt}
use Rattle.ysymbols.specs.Names.{printed_literal}
use Rattle.ytokens.specs.declared.tokens.TokenFault.{TokenFault}
use Rattle.ytokens.specs.declared.tokens.TokenFault.TheVariants as faults
use Rattle.ytokens.specs.Symbols.{is_input}

-- a byte of a word other than a literal: neither a blank nor a quote
abbrev pub is_word_byte : ℕ → Bool
is_word_byte b = not (is_blank b || b == 39)

-- The printed name of the word at the front, and what follows it: a literal in any spelling, which
-- what follows may touch, or the longest run of bytes that are neither blanks nor quotes.
pub data WordAt (bytes name rest : List ℕ) : Type 0 where
  literal : {value : ℕ} → name ≡ printed_literal value → LiteralAt bytes value rest
      → WordAt bytes name rest
  run : bytes ≡ name ++ rest → 0 < length name → all_pass is_word_byte name ≡ true
      → begins is_word_byte rest ≡ false → WordAt bytes name rest

-- what can stand at the front: nothing more, a word by its name with what follows it, or a quote
-- that begins no literal
pub data Front : Type 0 where
  nothing : Front
  word : (name rest : List ℕ) → Front
  broken : Front

-- this stands at the front
abbrev pub FrontAt : List ℕ → Front → Type 0
FrontAt bytes nothing = bytes ≡ []
FrontAt bytes (word name rest) = WordAt bytes name rest
FrontAt bytes broken = (begins (λ b. b == 39) bytes ≡ true)
    × ((name rest : List ℕ) → WordAt bytes name rest → ⊥)

-- this stands after the blanks at the front
pub record FrontIs (bytes : List ℕ) (front : Front) : Type 0 where
  pub gap : List ℕ
  pub here : List ℕ
  pub whole : bytes ≡ gap ++ here
  pub blanks : all_pass is_blank gap ≡ true
  pub no_blank : begins is_blank here ≡ false
  pub stands : FrontAt here front

-- what a front says after some tokens: one more token and what follows it, or the answer for the
-- rest
pub data Says : Type 0 where
  token : (symbol : ℕ) (rest : List ℕ) → Says
  answer : Result (List ℕ) TokenFault → Says

-- what the symbol that a word names says: K1 where there is no symbol, K2 where it is no input
-- token
abbrev pub by_name : ℕ → ℕ → Option ℕ → List ℕ → Says
by_name tokens place None rest = answer (Err (faults.Unknown place))
by_name tokens place (Some symbol) rest =
    if is_input tokens symbol then token symbol rest else answer (Err (faults.NotInput place))

-- the most tokens of an input
abbrev pub most_tokens : ℕ
most_tokens = 1000000

-- after n tokens: at the end the answer is fine; where no more tokens may follow, anything else is
-- K3; before that a quote that begins no literal is K5
abbrev pub says : (List ℕ → Option ℕ) → ℕ → ℕ → Front → Says
says find tokens n nothing = answer (Ok [])
says find tokens n (word name rest) =
    if nat_lt n most_tokens then by_name tokens (suc n) (find name) rest else answer
    (Err faults.TooMany)
says find tokens n broken =
    if nat_lt n most_tokens then answer (Err (faults.BadLiteral (suc n)))
    else answer (Err faults.TooMany)

-- after n tokens, this comes next
abbrev pub Comes : (List ℕ → Option ℕ) → ℕ → ℕ → List ℕ → Says → Type 0
Comes find tokens n bytes said =
    (front : Front) × FrontIs bytes front × (says find tokens n front ≡ said)

-- one more token at the front of an answer
abbrev pub with_token : ℕ → Result (List ℕ) TokenFault → Result (List ℕ) TokenFault
with_token symbol (Ok symbols) = Ok (symbol ∷ symbols)
with_token symbol (Err fault) = Err fault

-- after n tokens, so many more are named, and then comes the answer
abbrev pub Reads : (List ℕ → Option ℕ) → ℕ → ℕ → ℕ → List ℕ → Result (List ℕ) TokenFault → Type 0
Reads find tokens zero n bytes result = Comes find tokens n bytes (answer result)
Reads find tokens (suc k) n bytes result =
    (symbol : ℕ) × (rest : List ℕ) × (more : Result (List ℕ) TokenFault)
    × Comes find tokens n bytes (token symbol rest) × Reads find tokens k (suc n) rest more
    × (result ≡ with_token symbol more)

-- the tokens that are still to be read after n tokens, or the first fault among them
abbrev pub Outcome : (List ℕ → Option ℕ) → ℕ → ℕ → List ℕ → Result (List ℕ) TokenFault → Type 0
Outcome find tokens n bytes result = (k : ℕ) × Reads find tokens k n bytes result

-- whether the first byte or the last one is a blank
abbrev pub has_blank_end : List ℕ → Bool
has_blank_end bytes =
    is_blank (slice_index_or bytes 0 0) || is_blank (slice_index_or bytes (length bytes - 1) 0)
