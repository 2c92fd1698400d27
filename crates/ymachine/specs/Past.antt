-- The past of anything that changes by steps and edits: whole contents, each made from the one
-- before.
use Rattle.std.specs.Prelude.{ℕ, suc, ◌≡◌, ◌⊎◌, ◌<◌, ◌≤◌, List, [], ◌∷◌, length, Option, Some, None}
use Rattle.std.specs.Prelude.{IsSome, Result, Ok, Err, map, reverse}
use Prim.Native.Nat.{zero}
use Rattle.ymachine.specs.declared.machine.StepFault.{StepFault}
use Rattle.ymachine.specs.declared.machine.StepFault.TheVariants.{Halted, NoToken, Limit, Memory}

-- the content now, and each one before it with the kind of the step made there, the newest first
pub record Past (K S : Type 0) : Type 0 where
  pub now : S
  pub earlier : List (K × S)

-- how many steps stand
abbrev pub position : {K S : Type 0} → Past K S → ℕ
position h = length h.earlier

-- the kinds of the steps that stand, the first one first
abbrev pub kinds_of : {K S : Type 0} → Past K S → List K
kinds_of h = reverse (map (λ step. step.0) h.earlier)

-- how many steps may stand
abbrev pub most_steps : ℕ
most_steps = 1000000

-- no step was made yet
abbrev pub first_past : {K S : Type 0} → S → Past K S
first_past now = record { now = now; earlier = [] }

-- after n undos, none of them beyond the first content
abbrev pub back_from : {K S : Type 0} → ℕ → S → List (K × S) → Past K S
back_from zero now earlier = record { now = now; earlier = earlier }
back_from (suc n) now [] = record { now = now; earlier = [] }
back_from (suc n) now (step ∷ earlier) = back_from n step.1 earlier

-- the past after n undos
abbrev pub back_by : {K S : Type 0} → ℕ → Past K S → Past K S
back_by n h = back_from n h.now h.earlier

-- the first content alone
abbrev pub to_first : {K S : Type 0} → Past K S → Past K S
to_first h = back_by (position h) h

-- what is made of this kind leads from one content to the one after it
abbrev pub Follows : {K S : Type 0} → (S → Option (K × S)) → S → K → S → Type 0
Follows next before kind after = next before ≡ Some (kind, after)

-- a step leads from one content to the one after it, or an edit does
abbrev pub Comes : {K S E : Type 0} → (S → Option (K × S)) → (E → S → Option (K × S)) → S → K → S
    → Type 0
Comes {E = E} next edited before kind after =
    Follows next before kind after ⊎ ((edit : E) × Follows (edited edit) before kind after)

-- from the first content on, each content is made from the one before
abbrev pub LeadsTo : {K S E : Type 0} → (S → Option (K × S)) → (E → S → Option (K × S)) → S → S
    → List (K × S) → Type 0
LeadsTo next edited first now [] = now ≡ first
LeadsTo next edited first now (step ∷ earlier) =
    Comes next edited step.1 step.0 now × LeadsTo next edited first step.1 earlier

-- a past from this first content on
abbrev pub IsPast : {K S E : Type 0} → (S → Option (K × S)) → (E → S → Option (K × S)) → S
    → Past K S → Type 0
IsPast next edited first h = LeadsTo next edited first h.now h.earlier

-- a step of this kind was made
abbrev pub Makes : {K S : Type 0} → (S → Option (K × S)) → K → Past K S → Past K S → Type 0
Makes next kind h new = Follows next h.now kind new.now × (new.earlier ≡ (kind, h.now) ∷ h.earlier)

-- why a step or an edit is refused, where one function says what a step makes and the other what
-- is to be made: it can't be made, and the parse has halted where no step follows either; or else
-- as many stand as may, or else memory ran out
abbrev pub Refuses : {K S : Type 0} → (S → Option (K × S)) → (S → Option (K × S)) → Past K S
    → StepFault → Type 0
Refuses next made h Halted = (next h.now ≡ None) × (made h.now ≡ None)
Refuses next made h NoToken = IsSome (next h.now) × (made h.now ≡ None)
Refuses next made h Limit = IsSome (made h.now) × (most_steps ≤ position h)
Refuses next made h Memory = IsSome (made h.now) × (position h < most_steps)

-- what a step or an edit answers and leaves; a refused one changes nothing
abbrev pub Changes : {K S : Type 0} → (S → Option (K × S)) → (S → Option (K × S)) → Past K S
    → Result K StepFault → Past K S → Type 0
Changes next made h (Ok kind) new = (position h < most_steps) × Makes made kind h new
Changes next made h (Err fault) new = Refuses next made h fault × (new ≡ h)

-- what a step answers and leaves
abbrev pub Steps : {K S : Type 0} → (S → Option (K × S)) → Past K S → Result K StepFault → Past K S
    → Type 0
Steps next h result new = Changes next next h result new

-- what an undo answers and leaves: the whole earlier content, or no change at position 0
abbrev pub Undoes : {K S E : Type 0} → Past K S → Result K E → Past K S → Type 0
Undoes h (Ok kind) new = h.earlier ≡ (kind, new.now) ∷ new.earlier
Undoes h (Err e) new = (h.earlier ≡ []) × (new ≡ h)
