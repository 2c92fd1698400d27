-- The states that lead to a state: where a goto leads, and one more state listed.
use Rattle.std.proofs.Common.{ℕ, ◌≡◌, ◌<◌, ◌+◌, ◌⊎◌, length, arith, Option, Some, None}
use Rattle.std.proofs.Common.{MatchOption}
use Rattle.ylalr.specs.Collection.{Collection, HasStates, IsGoto}

-- a goto leads to a state
pub goto_within : (m : Collection) (q x : ℕ) (o : Option ℕ) → HasStates m → q < length m.states →
    IsGoto m q x o → MatchOption o (Unit {0}) (λ n. n < length m.states)
goto_within m q x None s h g = tt
goto_within m q x (Some n) s h g = let core = s.core q h in (g core.0 core.1).0

pub last_or_before : (k n : ℕ) → k < n + 1 → (k < n) ⊎ (k ≡ n)
last_or_before k n h = grind arith
