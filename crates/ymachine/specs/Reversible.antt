-- The law of a machine that steps forward and takes its steps back, and the past that a journal of
-- its changes keeps.
use Rattle.std.specs.Prelude.{◌≡◌, Bool, true, ◌&&◌, IsTrue, List, [], ◌∷◌, reverse, Option, None}
use Rattle.std.specs.Prelude.{IsSome, Result, Ok, Err, length, ◌≤◌, if◌then◌else◌}
use Rattle.ymachine.specs.declared.machine.StepFault.{StepFault}
use Rattle.ymachine.specs.declared.machine.StepFault.TheVariants.{Halted, NoToken, Limit, Memory}
use Rattle.ymachine.specs.Past.{Past, Follows, Changes, most_steps}

-- What a step or an edit answers and leaves, where one function says what a step makes and the
-- other what is to be made: a change that leads to it and back; or no change, where it can't be
-- made (the parse has halted where no step follows either), or else where memory ran out.
abbrev pub Advances : {S C K : Type 0} → (S → Option (K × S)) → (S → Option (K × S)) → (C → S → S)
    → (C → K) → (C → S → Bool) → S → Result C StepFault → S → Type 0
Advances next made before kind fits old (Ok change) new =
    Follows made old (kind change) new × (before change new ≡ old) × IsTrue (fits change new)
Advances next made before kind fits old (Err Halted) new =
    (next old ≡ None) × (made old ≡ None) × (new ≡ old)
Advances next made before kind fits old (Err NoToken) new =
    IsSome (next old) × (made old ≡ None) × (new ≡ old)
Advances next made before kind fits old (Err Memory) new = IsSome (made old) × (new ≡ old)
Advances next made before kind fits old (Err Limit) new = ⊥

-- each change's kind with the content before it, the newest change first
abbrev pub states_from : {S C K : Type 0} → (C → S → S) → (C → K) → S → List C → List (K × S)
states_from before kind now [] = []
states_from before kind now (change ∷ changes) =
    (kind change, before change now) ∷ states_from before kind (before change now) changes

-- whether each change fits where it would be taken back
abbrev pub fit_from : {S C : Type 0} → (C → S → S) → (C → S → Bool) → S → List C → Bool
fit_from before fits now [] = true
fit_from before fits now (change ∷ changes) =
    fits change now && fit_from before fits (before change now) changes

-- the same of changes in order, the newest last
abbrev pub states_before : {S C K : Type 0} → (C → S → S) → (C → K) → S → List C → List (K × S)
states_before before kind now changes = states_from before kind now (reverse changes)

-- whether all changes fit, the newest last
abbrev pub all_fit : {S C : Type 0} → (C → S → S) → (C → S → Bool) → S → List C → Bool
all_fit before fits now changes = fit_from before fits now (reverse changes)

-- the past of a content by the changes that led to it
abbrev pub past_by : {S C K : Type 0} → (C → S → S) → (C → K) → S → List C → Past K S
past_by before kind now changes =
    record { now = now; earlier = states_before before kind now changes }

-- there are few enough changes, and each can be taken back where it would be
pub record IsJournal {S C : Type 0} (before : C → S → S) (fits : C → S
    → Bool) (now : S) (changes : List C) : Type 0 where
  pub few : length changes ≤ most_steps
  pub fitting : IsTrue (all_fit before fits now changes)

-- why nothing is made: where as many stand as may, that is the reason, and not memory
abbrev pub refusal_of : Bool → StepFault → StepFault
refusal_of full Halted = Halted
refusal_of full NoToken = NoToken
refusal_of full Limit = Limit
refusal_of full Memory = if full then Limit else Memory

-- what a journal's step or edit answers and leaves: one of some kind, or why it can't be made
abbrev pub StepsOn : {K S : Type 0} → (S → Option (K × S)) → (S → Option (K × S)) → Past K S
    → Result (Unit {0}) StepFault → Past K S → Type 0
StepsOn {K = K} next made h (Ok done) new = (kind : K) × Changes next made h (Ok kind) new
StepsOn next made h (Err fault) new = Changes next made h (Err fault) new

-- what a journal's undo answers and leaves
abbrev pub StepsBack : {K S E : Type 0} → Past K S → Result (Unit {0}) E → Past K S → Type 0
StepsBack {K = K} h (Ok done) new = (kind : K) × (h.earlier ≡ (kind, new.now) ∷ new.earlier)
StepsBack h (Err e) new = (h.earlier ≡ []) × (new ≡ h)
