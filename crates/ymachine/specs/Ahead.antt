-- What a parse may make now, and where that leads.
use Rattle.std.specs.Prelude.{◌≡◌, IsTrue, IsSome, Option, Some, None, Result, Ok, Err}
use Rattle.ymachine.specs.declared.machine.StepFault.{StepFault}
use Rattle.ymachine.specs.declared.machine.StepFault.TheVariants.{Halted, NoToken, Limit, Memory}
use Rattle.ymachine.specs.declared.machine.StepKind.{StepKind}
use Rattle.ymachine.specs.Content.{Place, place_after, change_at, place_before, place_fits, valid}

-- What is found leads on by this kind to a content of a parse, and its change leads back.
pub record LeadsOn (p : Place) (found : Option (StepKind × Place)) (kind : StepKind) : Type 0 where
  pub next : found ≡ Some (kind, place_after kind p)
  pub back : place_before (change_at kind p.content) (place_after kind p) ≡ p
  pub fits : IsTrue (place_fits (change_at kind p.content) (place_after kind p))
  pub valid : IsTrue (valid (place_after kind p))

-- The kind of what is found, or why nothing is: it can't be made, and the parse has halted
-- where no step follows either.
abbrev pub Ahead : (Place → Option (StepKind × Place)) → (Place → Option (StepKind × Place))
    → Place → Result StepKind StepFault → Type 0
Ahead next found p (Ok kind) = LeadsOn p (found p) kind
Ahead next found p (Err Halted) = (next p ≡ None) × (found p ≡ None)
Ahead next found p (Err NoToken) = IsSome (next p) × (found p ≡ None)
Ahead next found p (Err Limit) = ⊥
Ahead next found p (Err Memory) = ⊥
