-- The history of a parse: its configurations from the first one on, each made from the one before
-- by a step or an edit.
use Rattle.std.specs.Prelude.{ℕ, suc, ◌≤◌, List, [], ◌∷◌}
use Rattle.std.specs.List.{All}
use Rattle.ymachine.specs.declared.machine.Mode.TheVariants.{Running}
use Rattle.ymachine.specs.declared.machine.StepKind.{StepKind}
use Rattle.ymachine.specs.Machine.{Machine, Configuration, next, edited}
use Rattle.ymachine.specs.Past.{Past, first_past, IsPast}

-- the configurations of a parse, now and before
abbrev pub History : Type 0
History = Past StepKind Configuration

-- each token with its place, counted from n
abbrev pub places_from : ℕ → List ℕ → List (ℕ × ℕ)
places_from n [] = []
places_from n (token ∷ tokens) = (token, n) ∷ places_from (suc n) tokens

-- an empty stack, all tokens, the counter 0, no errors, and the mode running
abbrev pub first_configuration : List ℕ → Configuration
first_configuration tokens = record {
  stack = [];
  rest = places_from 1 tokens;
  counter = 0;
  errors = 0;
  mode = Running;
}

-- the first configuration alone
abbrev pub first_history : List ℕ → History
first_history tokens = first_past (first_configuration tokens)

-- the history begins with the first configuration for these tokens, and each later one is made
-- from the one before by a step or an edit
abbrev pub IsHistory : Machine → List ℕ → History → Type 0
IsHistory m tokens h = IsPast (next m) (edited m) (first_configuration tokens) h

-- the recovery counter is at most 3, now and in each configuration before
pub record CountsToThree (h : History) : Type 0 where
  pub now : h.now.counter ≤ 3
  pub earlier : All (λ (step : StepKind × Configuration). step.1.counter ≤ 3) h.earlier
