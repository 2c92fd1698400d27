-- Bytes of a grammar file, blanks and comments (POSIX.1-2017, yacc, Lexical Structure of the
-- Grammar).
use Rattle.std.specs.Prelude.{ℕ, ◌≡◌, Bool, true, false, ◌&&◌, ◌||◌, ◌==◌, nat_le, List, [], ◌∷◌}
use Rattle.std.specs.Prelude.{◌++◌}

-- space, tab, newline, carriage return, form feed
abbrev pub is_blank : ℕ → Bool
is_blank b = b == 32 || b == 9 || b == 10 || b == 13 || b == 12

-- a decimal digit
abbrev pub is_digit : ℕ → Bool
is_digit b = nat_le 48 b && nat_le b 57

-- a letter, a period or an underscore
abbrev pub is_name_start : ℕ → Bool
is_name_start b = (nat_le 65 b && nat_le b 90) || (nat_le 97 b && nat_le b 122) || b == 46
    || b == 95

-- a byte that a name can have after its first
abbrev pub is_name_byte : ℕ → Bool
is_name_byte b = is_name_start b || is_digit b

-- every byte passes the test
abbrev pub all_pass : (ℕ → Bool) → List ℕ → Bool
all_pass p [] = true
all_pass p (b ∷ bs) = p b && all_pass p bs

-- there is a first byte, and it passes the test
abbrev pub begins : (ℕ → Bool) → List ℕ → Bool
begins p [] = false
begins p (b ∷ bs) = p b

-- a stands somewhere, and b next to it
abbrev pub has_pair : ℕ → ℕ → List ℕ → Bool
has_pair a b [] = false
has_pair a b (x ∷ xs) = (x == a && begins (λ y. y == b) xs) || has_pair a b xs

-- a, b, what doesn't have the pair c and d, and the first c and d after it
pub record IsBetween (a b c d : ℕ) (text : List ℕ) : Type 0 where
  pub inside : List ℕ
  pub whole : text ≡ a ∷ b ∷ inside ++ c ∷ d ∷ []
  pub first : has_pair c d (inside ++ c ∷ []) ≡ false

-- `/*` to the first `*/` after it
abbrev pub IsComment : List ℕ → Type 0
IsComment text = IsBetween 47 42 42 47 text

-- blanks and comments
pub data IsGap : List ℕ → Type 0 where
  nothing : IsGap []
  blank : {b : ℕ} {gap : List ℕ} → is_blank b ≡ true → IsGap gap → IsGap (b ∷ gap)
  comment : {text gap : List ℕ} → IsComment text → IsGap gap → IsGap (text ++ gap)
