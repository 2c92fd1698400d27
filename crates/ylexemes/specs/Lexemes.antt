-- The lexemes of a grammar file, and which bytes spell each (POSIX.1-2017, yacc, Lexical Structure
-- of the Grammar, in this project's profile).
use Rattle.std.specs.Prelude.{ℕ, ◌≡◌, ◌≢◌, ◌<◌, ◌≤◌, ◌||◌, ◌==◌, true, false, List, [], ◌∷◌, ◌++◌}
use Rattle.std.specs.Prelude.{length, Option, Some, None, codes, if◌then◌else◌}
use Rattle.std.specs.Borrow.{Bor}
use Rattle.std.specs.Str.Parse.{AllDigits, digits_value}
use Rattle.ylexemes.specs.declared.kind.Kind.{Kind}
use Rattle.ylexemes.specs.declared.kind.Kind.TheVariants as kind
use Rattle.ylexemes.specs.declared.kind.Sign.{Sign}
use Rattle.ylexemes.specs.declared.kind.Sign.TheVariants as sign
use Rattle.ylexemes.specs.Bytes.{is_name_start, is_name_byte, is_digit, all_pass, begins}
use Rattle.ylexemes.specs.Bytes.{IsBetween, IsComment, IsGap}

-- what the bytes of a lexeme stand for
pub data Lexeme : Type 0 where
  name : List ℕ → Lexeme
  -- a name with its colon
  c_identifier : List ℕ → Lexeme
  literal : ℕ → Lexeme
  -- digits
  number : List ℕ → Lexeme
  -- a kept text, with its braces
  braced : List ℕ → Lexeme
  code : Lexeme
  -- a lexeme that has one spelling
  fixed : Sign → Lexeme

-- name bytes, the first no digit
pub record IsName (text : List ℕ) : Type 0 where
  pub start : begins is_name_start text ≡ true
  pub each : all_pass is_name_byte text ≡ true

-- one digit or more
pub record IsNumber (text : List ℕ) : Type 0 where
  pub some : 0 < length text
  pub each : all_pass is_digit text ≡ true

-- the value of a backslash and this byte
abbrev pub escape_value : ℕ → Option ℕ
escape_value b =
    if b == 39 || b == 34 || b == 63 || b == 92 then Some b
    else if b == 97 then Some 7
    else if b == 98 then Some 8
    else if b == 102 then Some 12
    else if b == 110 then Some 10
    else if b == 114 then Some 13
    else if b == 116 then Some 9
    else if b == 118 then Some 11
    else None

-- the body of a literal, and its value
pub data IsCharacter (body : List ℕ) (value : ℕ) : Type 0 where
  plain : body ≡ value ∷ [] → 32 ≤ value → value ≤ 126 → value ≢ 39 → value ≢ 92 →
      IsCharacter body value
  escape : {b : ℕ} → body ≡ 92 ∷ b ∷ [] → escape_value b ≡ Some value → IsCharacter body value
  octal : {digits : List ℕ} → body ≡ 92 ∷ digits → 1 ≤ length digits → length digits ≤ 3 →
      AllDigits 8 digits → value ≡ digits_value 8 digits → 1 ≤ value → value ≤ 255 →
      IsCharacter body value
  hexadecimal : {digits : List ℕ} → body ≡ 92 ∷ 120 ∷ digits → 1 ≤ length digits →
      AllDigits 16 digits → value ≡ digits_value 16 digits → 1 ≤ value → value ≤ 255 →
      IsCharacter body value

-- a quote, one character, a quote
pub record IsLiteral (text : List ℕ) (value : ℕ) : Type 0 where
  pub body : List ℕ
  pub whole : text ≡ 39 ∷ body ++ 39 ∷ []
  pub character : IsCharacter body value

-- a literal of this value stands at the front, and this follows it
abbrev pub LiteralAt : List ℕ → ℕ → List ℕ → Type 0
LiteralAt bytes value rest = (text : List ℕ) × IsLiteral text value × (bytes ≡ text ++ rest)

-- the literal at the front, with what follows it, is found where one stands there
abbrev pub FindsLiteral : List ℕ → Option (ℕ × Bor (List ℕ)) → Type 0
FindsLiteral bytes None = (value : ℕ) (rest : List ℕ) → LiteralAt bytes value rest → ⊥
FindsLiteral bytes (Some (value, rest)) = LiteralAt bytes value rest.now

-- what stands between two quotes q, a backslash taking the byte after it along
pub data IsInside (q : ℕ) : List ℕ → Type 0 where
  nothing : IsInside q []
  byte : {b : ℕ} {text : List ℕ} → b ≢ q → b ≢ 92 → IsInside q text → IsInside q (b ∷ text)
  taken : {b : ℕ} {text : List ℕ} → IsInside q text → IsInside q (92 ∷ b ∷ text)

-- a string or a character constant of a kept text
pub record IsQuoted (q : ℕ) (text : List ℕ) : Type 0 where
  pub inside : List ℕ
  pub whole : text ≡ q ∷ inside ++ q ∷ []
  pub kept : IsInside q inside

-- `//` to the newline
pub record IsLineComment (text : List ℕ) : Type 0 where
  pub inside : List ℕ
  pub whole : text ≡ 47 ∷ 47 ∷ inside ++ 10 ∷ []
  pub each : all_pass (λ b. if b == 10 then false else true) inside ≡ true

-- what stands between the braces of a kept text
pub data IsKept : List ℕ → Type 0 where
  nothing : IsKept []
  byte : {b : ℕ} {text : List ℕ} → b ≢ 123 → b ≢ 125 → b ≢ 34 → b ≢ 39 → b ≢ 47 → IsKept text →
      IsKept (b ∷ text)
  slash : {text : List ℕ} → begins (λ b. b == 42 || b == 47) text ≡ false → IsKept text →
      IsKept (47 ∷ text)
  braces : {inside text : List ℕ} → IsKept inside → IsKept text →
      IsKept (123 ∷ inside ++ 125 ∷ text)
  string : {quoted text : List ℕ} → IsQuoted 34 quoted → IsKept text → IsKept (quoted ++ text)
  character : {quoted text : List ℕ} → IsQuoted 39 quoted → IsKept text → IsKept (quoted ++ text)
  comment : {skipped text : List ℕ} → IsComment skipped → IsKept text → IsKept (skipped ++ text)
  line : {skipped text : List ℕ} → IsLineComment skipped → IsKept text → IsKept (skipped ++ text)

-- a brace, what stands between, and the brace that closes it
pub record IsBraced (text : List ℕ) : Type 0 where
  pub inside : List ℕ
  pub whole : text ≡ 123 ∷ inside ++ 125 ∷ []
  pub kept : IsKept inside

-- a name, a gap and a colon
pub record IsCIdentifier (name text : List ℕ) : Type 0 where
  pub gap : List ℕ
  pub whole : text ≡ name ++ gap ++ 58 ∷ []
  pub named : IsName name
  pub skipped : IsGap gap

-- the one spelling
abbrev pub spelling : Sign → List ℕ
spelling sign.Mark = codes "%%"
spelling sign.Token = codes "%token"
spelling sign.Left = codes "%left"
spelling sign.Right = codes "%right"
spelling sign.Nonassoc = codes "%nonassoc"
spelling sign.Types = codes "%type"
spelling sign.Start = codes "%start"
spelling sign.Union = codes "%union"
spelling sign.Prec = codes "%prec"
spelling sign.Less = codes "<"
spelling sign.Greater = codes ">"
spelling sign.Bar = codes "|"
spelling sign.Semicolon = codes ";"

-- the bytes spell the lexeme
abbrev pub Spells : Lexeme → List ℕ → Type 0
Spells (name n) text = (text ≡ n) × IsName n
Spells (c_identifier n) text = IsCIdentifier n text
Spells (literal v) text = IsLiteral text v
Spells (number ds) text = (text ≡ ds) × IsNumber ds
Spells (braced t) text = (text ≡ t) × IsBraced t
Spells code text = IsBetween 37 123 37 125 text
Spells (fixed p) text = text ≡ spelling p

abbrev pub sign_kind : Sign → Kind
sign_kind sign.Mark = kind.Mark
sign_kind sign.Token = kind.Token
sign_kind sign.Left = kind.Left
sign_kind sign.Right = kind.Right
sign_kind sign.Nonassoc = kind.Nonassoc
sign_kind sign.Types = kind.Types
sign_kind sign.Start = kind.Start
sign_kind sign.Union = kind.Union
sign_kind sign.Prec = kind.Prec
sign_kind sign.Less = kind.Less
sign_kind sign.Greater = kind.Greater
sign_kind sign.Bar = kind.Bar
sign_kind sign.Semicolon = kind.Semicolon

-- what a lexeme is to the syntax
abbrev pub kind_of : Lexeme → Kind
kind_of (name n) = kind.Name
kind_of (c_identifier n) = kind.CIdentifier
kind_of (literal v) = kind.Literal
kind_of (number ds) = kind.Number
kind_of (braced t) = kind.Braced
kind_of code = kind.Code
kind_of (fixed p) = sign_kind p
