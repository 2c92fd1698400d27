-- What the builder of syntax trees asks of lexemes, and what it takes of them.
use Rattle.std.specs.Prelude.{ℕ, ◌≡◌, Bool, true, false, List, [], ◌∷◌, ◌++◌, Option, Some, None}
use Rattle.ysyntax.specs.declared.lexer.Placed.{Placed}
use Rattle.ylexemes.specs.declared.kind.Sign.{Sign}
use Rattle.ylexemes.specs.declared.kind.Sign.TheVariants.{Mark}
use Rattle.ysyntax.specs.declared.recogniser.State.{State}
use Rattle.ysyntax.specs.declared.recogniser.State.TheVariants.{Declarations, RulesMark}
use Rattle.ysyntax.specs.declared.tree.Definition.{Definition as CodeDefinition}
use Rattle.ysyntax.specs.declared.tree.Definition.TheVariants as definitions
use Rattle.ysyntax.specs.Recogniser.{run}
use Rattle.ylexemes.specs.Lexemes.{Lexeme, fixed}
use Rattle.ysyntax.specs.Lexer.{kinds}
use Rattle.ysyntax.specs.Answers.{views}
use Rattle.ysyntax.specs.Tree.{IsDefinition, body_part_yield, definition_yield, tag_yield}
use Rattle.ysyntax.specs.TreeViews.{definition_view}

-- after what led to a state, the lexemes make a grammar file
abbrev pub GoesOn : State → List Placed → Type 0
GoesOn q ls = run q (kinds (views ls)) ≡ true

-- no lexeme of these stands in front
abbrev pub NoneOf : {A : Type 0} → (A → Lexeme) → List Lexeme → Type 0
NoneOf {A = A} f ls = (x : A) (rest : List Lexeme) → ls ≡ f x ∷ rest → ⊥

-- no part of a body stands in front
abbrev pub NoBodyPart : List Lexeme → Type 0
NoBodyPart ls = NoneOf body_part_yield ls

-- the lexeme that has one spelling does not stand in front
abbrev pub NoSign : Sign → List Lexeme → Type 0
NoSign s ls = (rest : List Lexeme) → ls ≡ fixed s ∷ rest → ⊥

-- the lexeme in front was taken, or none of these stands there
abbrev pub Takes : {A : Type 0} → (A → Lexeme) → Option A → List Lexeme → List Lexeme → Type 0
Takes f None before after = NoneOf f before × (before ≡ after)
Takes f (Some x) before after = before ≡ f x ∷ after

-- the lexeme in front was taken, or it does not stand there
abbrev pub TakesSign : Sign → Bool → List Lexeme → List Lexeme → Type 0
TakesSign s false before after = NoSign s before × (before ≡ after)
TakesSign s true before after = before ≡ fixed s ∷ after

-- the tag in front was taken, or none stands there
abbrev pub TakesTag : Option (List ℕ) → List Lexeme → List Lexeme → Type 0
TakesTag None before after = ((n : List ℕ) (rest : List Lexeme) → before ≡ tag_yield n ++ rest → ⊥)
    × (before ≡ after)
TakesTag (Some n) before after = before ≡ tag_yield n ++ after

-- A declaration was taken off the lexemes before, and those after go on.
pub record IsDeclared (before : List Lexeme) (d : CodeDefinition) (after : List Placed) :
    Type 0 where
  pub whole : before ≡ definition_yield (definition_view d) ++ views after
  pub shaped : IsDefinition (definition_view d)
  pub goes_on : GoesOn Declarations after

-- a declaration was read, after its word
abbrev pub IsRead : Sign → CodeDefinition → List Placed → List Placed → Type 0
IsRead word d before after = IsDeclared (fixed word ∷ views before) d after

-- the same of an answer that is never none
abbrev pub ReadsDeclaration : Sign → Option CodeDefinition → List Placed → List Placed → Type 0
ReadsDeclaration word None before after = ⊥
ReadsDeclaration word (Some d) before after = IsRead word d before after

-- a declaration was read, or the mark after the last
abbrev pub ReadsOrMark : Option CodeDefinition → List Lexeme → List Placed → Type 0
ReadsOrMark None before after = (before ≡ fixed Mark ∷ views after) × GoesOn RulesMark after
ReadsOrMark (Some d) before after = IsDeclared before d after

-- where the lexeme in front stands
abbrev pub place_of : List Placed → ℕ
place_of [] = 0
place_of (p ∷ ps) = p.at

-- the word of a start symbol stands at the place
abbrev pub DefinitionAt : ℕ → CodeDefinition → Type 0
DefinitionAt at (definitions.Start m place) = place ≡ at
DefinitionAt at (definitions.Union t) = Unit {0}
DefinitionAt at definitions.Block = Unit {0}
DefinitionAt at (definitions.Listing l) = Unit {0}
DefinitionAt at (definitions.Types t) = Unit {0}
