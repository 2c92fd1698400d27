-- The gotos of states: for each state a list, by symbol.
use Rattle.std.specs.Prelude.{ℕ, ◌≡◌, ◌<◌, ◌==◌, ◌⊎◌, List, [], ◌∷◌, slice_index_or, Option, Some}
use Rattle.std.specs.Prelude.{None, All, AllPairs, if◌then◌else◌}
use Rattle.ylalr.specs.declared.gotos.Goto.{Goto}

-- what a list of gotos answers for x: the first that has it
abbrev pub lookup : List Goto → ℕ → Option ℕ
lookup [] x = None
lookup (t ∷ row) x = if t.symbol == x then Some t.state else lookup row x

-- the goto from state q over x, by the lists of gotos
abbrev pub goto_of : List (List Goto) → ℕ → ℕ → Option ℕ
goto_of rows q x = lookup (slice_index_or rows q []) x

-- by symbol
abbrev pub IsAscendingRow : List Goto → Type 0
IsAscendingRow row = AllPairs (λ a b. a.symbol < b.symbol) row

-- the symbols are among the first n
abbrev pub IsRowBelow : ℕ → List Goto → Type 0
IsRowBelow n row = All (λ a. a.symbol < n) row

-- (q, x) comes before (r, y): an earlier state, or an earlier symbol of the same state
abbrev pub IsEarlier : ℕ → ℕ → ℕ → ℕ → Type 0
IsEarlier q x r y = (q < r) ⊎ ((q ≡ r) × (x < y))

-- State n is new at a goto from a state before it: all gotos before that one lead to states before
-- n. So states have the order in which gotos find them, where states are taken by number, and for
-- each the symbols by number (Aho, Sethi, Ullman, section 4.7, the construction of the sets of
-- items).
pub record IsFound (rows : List (List Goto)) (n : ℕ) : Type 0 where
  pub state : ℕ
  pub symbol : ℕ
  pub before : state < n
  pub leads : goto_of rows state symbol ≡ Some n
  pub first : (q x k : ℕ) → IsEarlier q x state symbol → goto_of rows q x ≡ Some k → k < n
