-- The lines of an input: each but the last ends with a newline, and none has one inside.
use Rattle.std.specs.Prelude.{ℕ, ◌≡◌, ◌≢◌, List, [], ◌∷◌, ◌++◌, All}
use Rattle.std.specs.List.{flat_map}

-- no newline stands in it
abbrev pub IsOneLine : List ℕ → Type 0
IsOneLine line = All (λ b. b ≢ 10) line

-- the bytes are these lines, each with its newline, and then the rest
pub record IsCut (bytes : List ℕ) (lines : List (List ℕ)) (rest : List ℕ) : Type 0 where
  pub joined : bytes ≡ flat_map (λ line. line ++ 10 ∷ []) lines ++ rest
  pub each : All IsOneLine lines
  pub last : IsOneLine rest

-- a last line without its newline; no bytes are no line
abbrev pub last_line : List ℕ → List (List ℕ)
last_line [] = []
last_line (b ∷ bs) = (b ∷ bs) ∷ []

-- all lines of an input
pub record AreLines (bytes : List ℕ) (lines : List (List ℕ)) : Type 0 where
  pub whole : List (List ℕ)
  pub rest : List ℕ
  pub cut : IsCut bytes whole rest
  pub all : lines ≡ whole ++ last_line rest
