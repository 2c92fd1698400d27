-- One more turn of a loop, a loop that counts down, and an element by its place.
use Rattle.std.proofs.Common.{ℕ, zero, suc, ◌≡◌, ◌<◌, ◌-◌, List, [], ◌∷◌, length, get_or}
use Rattle.std.proofs.Common.{refl, subst, arith}

-- a loop that counts down meets each number
pub from_turned : (P : ℕ → Type 0) (n i : ℕ) → i ≡ n → ((k : ℕ) → k < i → P (n - 1 - k)) →
    (r : ℕ) → r < n → P r
from_turned P n i e f r h =
    let q : n - 1 - (n - 1 - r) ≡ r = omega arith in
    subst P q (f (n - 1 - r) (omega arith))

-- an element doesn't depend on the default
pub same_default : {X : Type 0} (xs : List X) (k : ℕ) (d e : X) → k < length xs →
    get_or xs k d ≡ get_or xs k e
same_default [] k d e h = absurd (omega arith)
same_default (x ∷ xs) zero d e h = refl
same_default (x ∷ xs) (suc k) d e h = same_default xs k d e (omega arith)
