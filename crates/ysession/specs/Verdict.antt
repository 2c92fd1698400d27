-- The verdict on a list of tokens: what the steps from the first configuration on come to (Aho,
-- Sethi and Ullman, 4.7, the LR parsing algorithm).
use Rattle.std.specs.Prelude.{ℕ, suc, Bool, true, false, ◌≡◌, ◌<◌, ◌≤◌, List, [], ◌∷◌, length, Some}
use Rattle.std.specs.List.{All}
use Rattle.ysession.specs.declared.verdict.Verdict.{Verdict}
use Rattle.ysession.specs.declared.verdict.Verdict.TheVariants.{Accepted, Rejected, Limit}
use Rattle.ymachine.specs.declared.machine.Mode.TheVariants as modes
use Rattle.ymachine.specs.declared.machine.StepKind.{StepKind}
use Rattle.ymachine.specs.declared.machine.StepKind.TheVariants as kinds
use Rattle.ymachine.specs.Machine.{Machine, Configuration, next}
use Rattle.ymachine.specs.Past.{most_steps, position}
use Rattle.ymachine.specs.History.{History, IsHistory}
use Rattle.ymachine.specs.Unwinding.{NoEdits}

-- the step detects an error
abbrev pub is_detect : StepKind → Bool
is_detect kinds.Detect = true
is_detect _ = false

-- no step of the past detects an error
abbrev pub NoDetect : List (StepKind × Configuration) → Type 0
NoDetect earlier = All (λ (step : StepKind × Configuration). is_detect step.0 ≡ false) earlier

-- The history goes from the first configuration on by steps alone, and none detects an error.
pub record IsQuiet (m : Machine) (tokens : List ℕ) (h : History) : Type 0 where
  pub history : IsHistory m tokens h
  pub steps : NoEdits h.earlier
  pub quiet : NoDetect h.earlier

-- the place of the first upcoming token, or of the end: one after the last token
abbrev pub place_ahead : List ℕ → List (ℕ × ℕ) → ℕ
place_ahead tokens [] = suc (length tokens)
place_ahead tokens (token ∷ rest) = token.1

-- The configuration at position p is accepted, and no earlier step detects an error.
pub record AcceptedAt (m : Machine) (tokens : List ℕ) (p : ℕ) : Type 0 where
  pub h : History
  pub run : IsQuiet m tokens h
  pub accepted : h.now.mode ≡ modes.Accepted
  pub at : position h ≡ p
  pub small : p ≤ most_steps

-- An error is detected first with the lookahead at the place, below the greatest position.
pub record RejectedAt (m : Machine) (tokens : List ℕ) (place : ℕ) : Type 0 where
  pub h : History
  pub run : IsQuiet m tokens h
  pub after : Configuration
  pub detects : next m h.now ≡ Some (kinds.Detect, after)
  pub below : position h < most_steps
  pub at : place_ahead tokens h.now.rest ≡ place

-- what a verdict says of the steps
abbrev pub Says : Machine → List ℕ → Verdict → Type 0
Says m tokens (Accepted p) = AcceptedAt m tokens p
Says m tokens (Rejected place) = RejectedAt m tokens place
Says m tokens Limit =
    ((p : ℕ) → AcceptedAt m tokens p → ⊥) × ((place : ℕ) → RejectedAt m tokens place → ⊥)

-- The verdict says it, and whatever the steps come to is this verdict.
pub record IsVerdict (m : Machine) (tokens : List ℕ) (v : Verdict) : Type 0 where
  pub says : Says m tokens v
  pub only : (other : Verdict) → Says m tokens other → other ≡ v
