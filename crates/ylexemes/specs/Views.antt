-- What the readers of the code give, as functions of lists.
use Rattle.std.specs.Prelude.{ℕ, ◌≡◌, not, ◌||◌, codes, if◌then◌else◌, Bool, false, cond, ◌&&◌}
use Rattle.std.specs.Prelude.{◌==◌, List, [], ◌∷◌, ◌++◌, drop, Option, Some, None, Result, Ok, Err}
use Rattle.std.specs.Borrow.{Bor}
use Rattle.std.specs.Str.{bytes_eq}
use Rattle.ylexemes.specs.declared.kind.Sign.{Sign}
use Rattle.ylexemes.specs.declared.kind.Sign.TheVariants as sign
use Rattle.ylexemes.specs.declared.part.Part.{Part as CodePart}
use Rattle.ylexemes.specs.declared.part.Part.TheVariants as parts
use Rattle.ylexemes.specs.declared.part.Lexeme.{Lexeme as CodeLexeme}
use Rattle.ylexemes.specs.declared.part.Lexeme.TheVariants as lexemes
use Rattle.ylexemes.specs.declared.part.LexicalFault.{LexicalFault}
use Rattle.ylexemes.specs.declared.part.LexicalFault.TheVariants as faults
use Rattle.ylexemes.specs.Bytes.{is_digit, is_blank, is_name_start, begins, IsComment, IsGap}
use Rattle.ylexemes.specs.Lexemes.{Lexeme, name, c_identifier, literal, number, braced, code, fixed}
use Rattle.ylexemes.specs.Front.{Part, blank, comment, lexeme, PartAt, Fault, unfinished}
use Rattle.ylexemes.specs.Front.{bad_literal, foreign, FaultAt}

abbrev pub slice_of : Option (Bor (List ℕ)) → Option (List ℕ)
slice_of None = None
slice_of (Some s) = Some s.now

-- what follows the first a that has b after it
abbrev pub pair_after : ℕ → ℕ → List ℕ → Option (List ℕ)
pair_after a b [] = None
pair_after a b (x ∷ xs) = cond (x == a && begins (λ y. y == b) xs) (Some (drop 1 xs))
    (pair_after a b xs)

abbrev pub lexeme_view : CodeLexeme → Lexeme
lexeme_view (lexemes.Name n) = name n.now
lexeme_view (lexemes.CIdentifier n) = c_identifier n.now
lexeme_view (lexemes.Literal v) = literal v
lexeme_view (lexemes.Number n) = number n.now
lexeme_view (lexemes.Braced t) = braced t.now
lexeme_view lexemes.Code = code
lexeme_view (lexemes.Fixed s) = fixed s

abbrev pub part_view : CodePart → Part
part_view parts.Blank = blank
part_view parts.Comment = comment
part_view (parts.Lexeme l) = lexeme (lexeme_view l)

abbrev pub fault_view : LexicalFault → Fault
fault_view faults.Unfinished = unfinished
fault_view faults.BadLiteral = bad_literal
fault_view faults.Foreign = foreign

-- the part at the front of the bytes is read, or why no part is there
abbrev pub Reads : List ℕ → Result (CodePart × Bor (List ℕ)) LexicalFault → Type 0
Reads bytes (Ok (part, rest)) = PartAt bytes (part_view part) rest.now
Reads bytes (Err fault) = FaultAt bytes (fault_view fault)

abbrev pub begins_digit : List ℕ → Bool
begins_digit bytes = begins is_digit bytes

abbrev pub begins_slash : List ℕ → Bool
begins_slash bytes = begins (λ b. b == 47) bytes

abbrev pub begins_quote : List ℕ → Bool
begins_quote bytes = begins (λ b. b == 39) bytes

abbrev pub begins_percent : List ℕ → Bool
begins_percent bytes = begins (λ b. b == 37) bytes

abbrev pub begins_brace : List ℕ → Bool
begins_brace bytes = begins (λ b. b == 123) bytes

abbrev pub begins_name : List ℕ → Bool
begins_name bytes = begins is_name_start bytes

-- the rest follows blanks and comments, and neither a blank nor a comment begins it
pub record SkipsGap (bytes rest : List ℕ) : Type 0 where
  pub gap : List ℕ
  pub whole : bytes ≡ gap ++ rest
  pub skipped : IsGap gap
  pub no_blank : begins is_blank rest ≡ false
  pub no_comment : (text after : List ℕ) → IsComment text → rest ≡ text ++ after → ⊥

-- the lexeme that a byte is by itself
abbrev pub sign_of : ℕ → Option Sign
sign_of b =
    if b == 60 then Some sign.Less
    else if b == 62 then Some sign.Greater
    else if b == 124 then Some sign.Bar
    else if b == 59 then Some sign.Semicolon
    else None

-- the lexeme that a word after a percent sign is
abbrev pub word_of : List ℕ → Option Sign
word_of w =
    if bytes_eq w (codes "token") then Some sign.Token
    else if bytes_eq w (codes "left") then Some sign.Left
    else if bytes_eq w (codes "right") then Some sign.Right
    else if bytes_eq w (codes "nonassoc") then Some sign.Nonassoc
    else if bytes_eq w (codes "type") then Some sign.Types
    else if bytes_eq w (codes "start") then Some sign.Start
    else if bytes_eq w (codes "union") then Some sign.Union
    else if bytes_eq w (codes "prec") then Some sign.Prec
    else None

-- a byte that begins no blank, number, comment or name
abbrev pub is_other : ℕ → Bool
is_other b = not (is_blank b || is_digit b || b == 47 || is_name_start b)

-- a byte that begins no lexeme of more than one byte either
abbrev pub is_lone : ℕ → Bool
is_lone b = is_other b && not (b == 39) && not (b == 37) && not (b == 123)
