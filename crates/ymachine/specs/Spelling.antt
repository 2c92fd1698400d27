-- The input token that some bytes spell.
use Rattle.std.specs.Prelude.{ℕ, ◌≡◌, false, List, [], ◌∷◌}
use Rattle.std.specs.Prelude.{Option, Some, None, Ok}
use Rattle.ytokens.specs.TokensFile.{Outcome, has_blank_end}
use Rattle.ymachine.specs.Machine.{Machine}

-- the bytes name this token alone, and have no blank before or after it
abbrev pub IsSpelled : Machine → List ℕ → ℕ → Type 0
IsSpelled m bytes token = (has_blank_end bytes ≡ false)
    × Outcome m.find m.tokens 0 bytes (Ok (token ∷ []))

-- the token that the bytes spell, or that they spell no token
abbrev pub Spells : Machine → List ℕ → Option ℕ → Type 0
Spells m bytes (Some token) = IsSpelled m bytes token
Spells m bytes None = (token : ℕ) → IsSpelled m bytes token → ⊥
