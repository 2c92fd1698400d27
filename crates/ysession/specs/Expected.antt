-- Which tokens could come next.
use Rattle.std.specs.Prelude.{ℕ, suc, ◌≡◌, ◌+◌, ◌≤◌, [], length, Option, Some, IsSome}
use Rattle.std.specs.Prelude.{Bool, true}
use Prim.Native.Nat.{zero}
use Rattle.std.specs.Option.{option_map}
use Rattle.ytokens.specs.Symbols.{is_input}
use Rattle.ymachine.specs.declared.machine.Edit.TheVariants as edits
use Rattle.ymachine.specs.declared.machine.StepKind.{StepKind}
use Rattle.ymachine.specs.declared.machine.StepKind.TheVariants as kinds
use Rattle.ymachine.specs.History.{History}
use Rattle.ymachine.specs.Machine.{Configuration, Machine, next, edited}
use Rattle.ymachine.specs.Past.{most_steps, position}
use Rattle.ysession.specs.declared.expected.Outlook.{Outlook}
use Rattle.ysession.specs.declared.expected.Outlook.TheVariants.{Unexpected, Expected, Untold}

-- The configuration with this token next: it comes before the upcoming tokens, by the machine's
-- edit; for the end, which is number 0, no token is upcoming.
abbrev pub with_next : Machine → ℕ → Configuration → Option Configuration
with_next m zero c = Some (record c { rest = [] })
with_next m (suc n) c =
    option_map (λ (made : StepKind × Configuration). made.1) (edited m (edits.Insert (suc n)) c)

-- whether a token can be next: the end, or an input token
abbrev pub can_be_next : ℕ → ℕ → Bool
can_be_next tokens zero = true
can_be_next tokens (suc n) = is_input tokens (suc n)

-- the step that takes the token: its shift, and for the end acceptance
abbrev pub taking : ℕ → StepKind
taking zero = kinds.Accept
taking (suc n) = kinds.Shift (suc n)

-- so many steps of the machine, each a reduction, lead from one configuration to the other
abbrev pub Reduces : Machine → ℕ → Configuration → Configuration → Type 0
Reduces m zero c end = end ≡ c
Reduces m (suc n) c end =
    (rule : ℕ) × (mid : Configuration) × (next m c ≡ Some (kinds.Reduce rule, mid))
    × Reduces m n mid end

-- reductions alone lead from the configuration to the step that takes the token
pub record IsTaken (m : Machine) (first : Configuration) (token : ℕ) : Type 0 where
  pub count : ℕ
  pub at : Configuration
  pub reduces : Reduces m count first at
  pub after : Configuration
  pub takes : next m at ≡ Some (taking token, after)

-- the token could come next: with it next, reductions alone lead to the step that takes it
pub record IsExpected (m : Machine) (c : Configuration) (token : ℕ) : Type 0 where
  pub first : Configuration
  pub given : with_next m token c ≡ Some first
  pub taken : IsTaken m first token

-- so many reductions come from the configuration on, and after them a step is left
pub record IsReducing (m : Machine) (first : Configuration) (count : ℕ) : Type 0 where
  pub at : Configuration
  pub reduces : Reduces m count first at
  pub left : IsSome (next m at)

-- so many reductions come with the token next, and after them a step is left
pub record IsLong (m : Machine) (c : Configuration) (token count : ℕ) : Type 0 where
  pub first : Configuration
  pub given : with_next m token c ≡ Some first
  pub reducing : IsReducing m first count

-- what a trial of so many reductions at most shows of the token, from the configuration with it next
abbrev pub Shows : Machine → Configuration → ℕ → ℕ → Outlook → Type 0
Shows m first token most Unexpected = (IsTaken m first token → ⊥) × (IsReducing m first most → ⊥)
Shows m first token most Expected = IsTaken m first token × (IsReducing m first most → ⊥)
Shows m first token most Untold = IsReducing m first most

-- What an outlook says of a token that was tried by so many reductions at most. It is untold
-- exactly where so many come.
abbrev pub SaysWithin : Machine → Configuration → ℕ → ℕ → Outlook → Type 0
SaysWithin m c token most Unexpected = (IsExpected m c token → ⊥) × (IsLong m c token most → ⊥)
SaysWithin m c token most Expected = IsExpected m c token × (IsLong m c token most → ⊥)
SaysWithin m c token most Untold = IsLong m c token most

-- how many edits bring the token next: the insertion, or each upcoming token is dropped
abbrev pub edits_for : ℕ → Configuration → ℕ
edits_for zero c = length c.rest
edits_for (suc n) c = 1

-- The limit of positions comes first: with the token next, after these reductions a step is left,
-- and the edits and the reductions go up to the limit or past it.
pub record IsCutOff (m : Machine) (h : History) (token : ℕ) : Type 0 where
  pub count : ℕ
  pub long : IsLong m h.now token count
  pub limit : most_steps ≤ position h + edits_for token h.now + count

-- what an outlook says of a token in a session
abbrev pub Says : Machine → History → ℕ → Outlook → Type 0
Says m h token Unexpected = IsExpected m h.now token → ⊥
Says m h token Expected = IsExpected m h.now token
Says m h token Untold = IsCutOff m h token
