-- Numbers that wait: each has a mark, and stands in the rest of a round or in the next one.
use Rattle.std.specs.Prelude.{ℕ, Bool, List, ◌≡◌, ◌<◌, ◌+◌, ◌⊎◌, length, count_by}
use Rattle.std.specs.List.{Contains}
use Rattle.ybitsets.specs.Marks.{Has}

-- the number stands in one of the two lists
abbrev pub InEither : List ℕ → List ℕ → ℕ → Type 0
InEither a b p = Contains a p ⊎ Contains b p

-- each number with a mark stands in one of the lists, and all that stand there have a place
pub record AreListed (m : List Bool) (a b : List ℕ) : Type 0 where
  pub listed : (p : ℕ) → Has m p → InEither a b p
  pub within : (p : ℕ) → InEither a b p → p < length m

-- both lists are over
abbrev pub AreOut : List ℕ → List ℕ → Type 0
AreOut a b = (p : ℕ) → InEither a b p → ⊥

-- the lists a' and b' are a and b without one element p
pub record IsOut (a b a' b' : List ℕ) (p : ℕ) : Type 0 where
  pub there : InEither a b p
  pub rest : (r : ℕ) → InEither a b r → (r ≡ p) ⊎ InEither a' b' r
  pub old : (r : ℕ) → InEither a' b' r → InEither a b r
  pub fewer : length a' + length b' + 1 ≡ length a + length b

-- how many wait
abbrev pub waiting_in : List Bool → ℕ
waiting_in m = count_by (λ b. b) m
