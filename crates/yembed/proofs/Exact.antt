-- A bit that says whether there is no choice.
use Rattle.std.proofs.Common.{ℕ, ◌≡◌, ◌↔◌, Bool, true, false, if◌then◌else◌, IsTrue, refl}
use Rattle.std.proofs.lemmas.Bool.{true≢false, false≢true}

pub exact_of : (free choice : Bool) (exact : ℕ) → (IsTrue free ↔ (choice ≡ false))
    → exact ≡ (if free then 1 else 0) → exact ≡ (if choice then 0 else 1)
exact_of true true exact both is = absurd (true≢false (both.0 refl))
exact_of true false exact both is = is
exact_of false true exact both is = is
exact_of false false exact both is = absurd (false≢true (both.1 refl))
