-- What leads a session to a position.
use Rattle.std.specs.Prelude.{ℕ, suc, ◌≡◌, ◌-◌, Option, Some, None, Result, Ok, Err, Bool}
use Rattle.std.specs.Prelude.{true, false, nat_lt}
use Prim.Native.Nat.{zero}
use Rattle.ymachine.specs.declared.machine.StepFault.{StepFault}
use Rattle.ymachine.specs.declared.machine.StepKind.{StepKind}
use Rattle.ymachine.specs.History.{History}
use Rattle.ymachine.specs.Machine.{Machine, next}
use Rattle.ymachine.specs.Past.{Steps, back_by, position}
use Rattle.ysession.specs.declared.session.Session.{Session}
use Rattle.ysession.specs.Session.{history_of, machine_of, setting_of}
use Rattle.yhandles.specs.Moves.{fault_status}

-- a step was made, and then come later ones; or it was refused, and that is the end
abbrev pub Goes : (History → Option StepFault → History → Type 0) → Result StepKind StepFault
    → History → Option StepFault → History → Type 0
Goes later (Ok kind) mid end new = later mid end new
Goes later (Err fault) mid end new = (end ≡ Some fault) × (new ≡ mid)

-- so many steps of the machine, or fewer, up to one that is refused
abbrev pub Ups : Machine → ℕ → History → Option StepFault → History → Type 0
Ups m zero h end new = (end ≡ None) × (new ≡ h)
Ups m (suc n) h end new =
    (made : Result StepKind StepFault) × (mid : History) × Steps (next m) h made mid
    × Goes (Ups m n) made mid end new

-- steps to a position above the one now, or else undos to one that isn't
abbrev pub TravelsBy : ℕ → Bool → Machine → History → Option StepFault → History → Type 0
TravelsBy k true m h end new = Ups m (k - position h) h end new
TravelsBy k false m h end new = (end ≡ None) × (new ≡ back_by (position h - k) h)

-- the session goes to this position, unless a step is refused on the way
pub record Travelled (k : ℕ) (was : Session) (end : Option StepFault) (is : Session) : Type 0 where
  pub travels : TravelsBy k (nat_lt (position (history_of was)) k) (machine_of was)
      (history_of was) end (history_of is)
  pub stays : setting_of is ≡ setting_of was

-- the status of the answer: 0 where the position is reached, 12 where there is no session
abbrev pub travel_status : Option (Option StepFault) → ℕ
travel_status None = 12
travel_status (Some None) = 0
travel_status (Some (Some fault)) = fault_status fault
