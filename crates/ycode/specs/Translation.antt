-- Which token a number of the lexer is, by a list of tokens.
use Rattle.std.specs.Prelude.{ℕ, ◌≡◌, ◌≢◌, ◌+◌, ◌<◌, List, Some, length, map, if◌then◌else◌}
use Rattle.std.specs.Prelude.{nat_eq, nat_lt, max, slice_get, slice_index}
use Rattle.std.specs.List.{fold, position_or_len, range_with_len}

-- the token at this number, or `none` past the end of the list
abbrev pub translated : ℕ → List ℕ → ℕ → ℕ
translated none symbols n = if nat_lt n (length symbols) then slice_index symbols n else none

-- each of the tokens below k stands at its number, and `none` at the numbers of no such token
pub record TranslatesTo (k : ℕ) (numbers : List ℕ) (none : ℕ) (symbols : List ℕ) : Type 0 where
  pub token : (s n : ℕ) → s < k → slice_get numbers s ≡ Some n → translated none symbols n ≡ s
  pub other : (n : ℕ) → ((s : ℕ) → s < k → slice_get numbers s ≢ Some n) →
      translated none symbols n ≡ none

-- one more than the greatest of the numbers, or 0
abbrev pub bound_for : List ℕ → ℕ
bound_for numbers = fold (λ bound n. max bound (n + 1)) 0 numbers

-- for each number up to the greatest of a token the token that has it, or the number of tokens
abbrev pub tokens_for : List ℕ → List ℕ
tokens_for numbers = map (λ n. position_or_len (nat_eq n) numbers)
    (range_with_len 0 (bound_for numbers))
