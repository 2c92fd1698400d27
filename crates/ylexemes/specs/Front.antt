-- What stands at the front of the bytes of a file: a blank, a comment or a lexeme, as long as it can
-- be (Aho, Sethi and Ullman, section 3.5: the longest match), or why nothing does.
use Rattle.std.specs.Prelude.{ℕ, ◌≡◌, ◌≤◌, ◌<◌, true, List, ◌∷◌, [], ◌++◌, length, ◌⊎◌, codes}
use Rattle.ylexemes.specs.Bytes.{is_blank, is_name_byte, all_pass, IsComment}
use Rattle.ylexemes.specs.Lexemes.{Lexeme, literal, Spells}

-- what stands at a place of a file
pub data Part : Type 0 where
  blank comment : Part
  lexeme : Lexeme → Part

-- the text is that part
abbrev pub IsPart : Part → List ℕ → Type 0
IsPart blank text = (b : ℕ) × (text ≡ b ∷ []) × (is_blank b ≡ true)
IsPart comment text = IsComment text
IsPart (lexeme l) text = Spells l text

-- a percent sign and name bytes, whether or not the word is one of the table
pub record IsPercentWord (text : List ℕ) : Type 0 where
  pub word : List ℕ
  pub whole : text ≡ 37 ∷ word
  pub each : all_pass is_name_byte word ≡ true

-- The part at the front of the bytes, and what follows it. No lexeme, and no percent word, could
-- be taken longer.
pub record PartAt (bytes : List ℕ) (part : Part) (rest : List ℕ) : Type 0 where
  pub text : List ℕ
  pub whole : bytes ≡ text ++ rest
  pub spelled : IsPart part text
  pub longest : (l : Lexeme) (longer after : List ℕ) → bytes ≡ longer ++ after → Spells l longer →
      length longer ≤ length text
  pub longest_word : (longer after : List ℕ) → bytes ≡ longer ++ after → IsPercentWord longer →
      length longer ≤ length text

-- these bytes and some more spell a literal
abbrev pub BeginsLiteral : List ℕ → Type 0
BeginsLiteral bytes = (value : ℕ) × (more : List ℕ) × Spells (literal value) (bytes ++ more)

-- G2, G3, G4 and G5
pub data Fault : Type 0 where
  unfinished bad_literal foreign syntax : Fault

-- a comment, a code block or a kept text begins here
pub data Opens (bytes : List ℕ) : Type 0 where
  open_comment : {after : List ℕ} → bytes ≡ codes "/*" ++ after → Opens bytes
  open_code : {after : List ℕ} → bytes ≡ codes "%{" ++ after → Opens bytes
  open_braced : {after : List ℕ} → bytes ≡ codes "{" ++ after → Opens bytes

-- a quote stands in front
abbrev pub Quotes : List ℕ → Type 0
Quotes bytes = (after : List ℕ) × (bytes ≡ codes "'" ++ after)

-- what is wrong where no part begins
abbrev pub IsLexical : List ℕ → Fault → Type 0
IsLexical bytes unfinished = Opens bytes ⊎ (Quotes bytes × BeginsLiteral bytes)
IsLexical bytes bad_literal = Quotes bytes × (BeginsLiteral bytes → ⊥)
IsLexical bytes foreign = (0 < length bytes) × (Opens bytes → ⊥) × (Quotes bytes → ⊥)
IsLexical bytes syntax = ⊥

-- no part begins here, and why
pub record FaultAt (bytes : List ℕ) (fault : Fault) : Type 0 where
  pub none : (part : Part) (rest : List ℕ) → PartAt bytes part rest → ⊥
  pub what : IsLexical bytes fault
