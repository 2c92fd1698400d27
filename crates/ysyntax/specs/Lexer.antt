-- A file cut into blanks, comments and lexemes (Aho, Sethi and Ullman, section 3.5), and its first
-- fault.
use Rattle.std.specs.Prelude.{ℕ, suc, count_by, ◌≡◌, ◌≤◌, Result, Ok, Err, ◌+◌, Bool, true}
use Rattle.std.specs.Prelude.{false, cond, ◌==◌, List, [], ◌∷◌, ◌++◌, length, map}
use Rattle.ylexemes.specs.declared.kind.Kind.{Kind}
use Rattle.ylexemes.specs.declared.kind.Kind.TheVariants as kind
use Rattle.ylexemes.specs.declared.kind.Sign.TheVariants as sign
use Rattle.ysyntax.specs.Syntax.{IsSpec, BeginsSpec}
use Rattle.ylexemes.specs.Lexemes.{Lexeme, fixed, kind_of}
use Rattle.ylexemes.specs.Front.{Part, blank, comment, lexeme, PartAt, Fault, syntax, FaultAt}

-- the front of the bytes is cut into these parts
abbrev pub Cuts : List ℕ → List Part → List ℕ → Type 0
Cuts bytes [] rest = bytes ≡ rest
Cuts bytes (part ∷ parts) rest = (middle : List ℕ) × PartAt bytes part middle
    × Cuts middle parts rest

-- the lexemes among the parts
abbrev pub lexemes : List Part → List Lexeme
lexemes [] = []
lexemes (blank ∷ parts) = lexemes parts
lexemes (comment ∷ parts) = lexemes parts
lexemes (lexeme l ∷ parts) = l ∷ lexemes parts

-- the kinds of lexemes
abbrev pub kinds : List Lexeme → List Kind
kinds ls = map kind_of ls

abbrev pub is_mark : Kind → Bool
is_mark kind.Mark = true
is_mark _ = false

-- how many marks there are
abbrev pub marks : List Lexeme → ℕ
marks [] = 0
marks (l ∷ ls) = cond (is_mark (kind_of l)) (suc (marks ls)) (marks ls)

-- A place that reading comes to: these lexemes stand before it, and fewer than two of them are
-- marks.
pub record ComesTo (bytes : List ℕ) (ls : List Lexeme) (rest : List ℕ) : Type 0 where
  pub parts : List Part
  pub cut : Cuts bytes parts rest
  pub read : lexemes parts ≡ ls
  pub unfinished : marks ls ≤ 1

-- the whole file is cut, or the file up to and with its second mark
pub data IsCut (bytes : List ℕ) : List Lexeme → Type 0 where
  at_end : {ls : List Lexeme} → ComesTo bytes ls [] → IsCut bytes ls
  at_mark : {ls : List Lexeme} {before rest : List ℕ} → ComesTo bytes ls before → marks ls ≡ 1 →
      PartAt before (lexeme (fixed sign.Mark)) rest → IsCut bytes (ls ++ fixed sign.Mark ∷ [])

-- the file spells the syntax of these lexemes
pub record SpellsSyntax (bytes : List ℕ) (ls : List Lexeme) : Type 0 where
  pub cut : IsCut bytes ls
  pub derived : IsSpec (kinds ls)

-- a fault, and the line of the place where it stands
pub record Refusal : Type 0 where
  pub fault : Fault
  pub line : ℕ

abbrev pub refusal : Fault → ℕ → Refusal
refusal fault line = record { fault = fault; line = line }

-- how many newlines there are
abbrev pub newlines : List ℕ → ℕ
newlines text = count_by (λ b. b == 10) text

-- the line of the place where the rest begins: one more than the newlines before it
pub record IsLine (bytes rest : List ℕ) (line : ℕ) : Type 0 where
  pub before : List ℕ
  pub whole : bytes ≡ before ++ rest
  pub counted : line ≡ newlines before + 1

-- Why reading stops after these lexemes, and with which outcome.
pub data Stops (ls : List Lexeme) (rest : List ℕ) (line : ℕ) : Result (List Lexeme) Refusal →
    Type 0 where
  ended : rest ≡ [] → IsSpec (kinds ls) → Stops ls rest line (Ok ls)
  marked : {after : List ℕ} → PartAt rest (lexeme (fixed sign.Mark)) after → marks ls ≡ 1 →
      IsSpec (kinds (ls ++ fixed sign.Mark ∷ [])) →
      Stops ls rest line (Ok (ls ++ fixed sign.Mark ∷ []))
  lexical : {fault : Fault} → FaultAt rest fault → Stops ls rest line (Err (refusal fault line))
  -- a lexeme stands there, and with it the lexemes begin no grammar file
  stray : {l : Lexeme} {after : List ℕ} → PartAt rest (lexeme l) after →
      (BeginsSpec (kinds (ls ++ l ∷ [])) → ⊥) → Stops ls rest line (Err (refusal syntax line))
  -- the file ends too early
  early : rest ≡ [] → (IsSpec (kinds ls) → ⊥) → Stops ls rest line (Err (refusal syntax line))

-- The lexemes of the file, or its first fault and the fault's line.
pub record Outcome (bytes : List ℕ) (result : Result (List Lexeme) Refusal) : Type 0 where
  pub before : List Lexeme
  pub rest : List ℕ
  pub line : ℕ
  pub comes : ComesTo bytes before rest
  pub begun : BeginsSpec (kinds before)
  pub here : IsLine bytes rest line
  pub stops : Stops before rest line result

-- Reading stops with this outcome, and so many bytes stand before the place where it stops.
pub record StopsAt (bytes : List ℕ) (at : ℕ) (result : Result (List Lexeme) Refusal) : Type 0 where
  pub outcome : Outcome bytes result
  pub place : at + length outcome.rest ≡ length bytes
