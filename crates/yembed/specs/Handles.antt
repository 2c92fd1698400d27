-- What the calls on a handle answer, and what C gets.
use Rattle.std.specs.Prelude.{ℕ, ◌≡◌, List, length, Option, Some, None, Result, Ok, Err}
use Rattle.ymachine.specs.declared.machine.StepFault.{StepFault}
use Rattle.ymachine.specs.declared.machine.StepKind.{StepKind}
use Rattle.ysession.specs.declared.session.Session.{Session}
use Rattle.ysession.specs.Session.{history_of, machine_of}
use Rattle.ystepper.specs.Headline.{Begins}
use Rattle.yhandles.specs.declared.moves.Move.{Move}
use Rattle.yhandles.specs.declared.moves.Refusal.{Refusal}
use Rattle.yhandles.specs.declared.stands.Standing.{Standing}
use Rattle.yhandles.specs.Answers.{Answers}
use Rattle.yhandles.specs.Moves.{answer_status, move_after}
use Rattle.yhandles.specs.Stands.{Stands as StandsThere}
use Rattle.yhandles.specs.Texts.{Text, text_status}
use Rattle.yhandles.specs.Travel.{Travelled, travel_status}
use Rattle.yembed.specs.Memory.{HandsNothing, Holds}

-- the session is the start of a parse of these tokens by this grammar
pub record Opens (grammar tokens : List ℕ) (new : Option Session) : Type 0 where
  pub session : Session
  pub is : new ≡ Some session
  pub begins : Begins grammar tokens (machine_of session) (history_of session)

-- the session gave such an answer, and that was told
pub record Moves (call : Session → Result StepKind Refusal → Session → Type 0)
    (old new : Option Session) (status : ℕ) (was is : Move) : Type 0 where
  pub answer : Option (Result StepKind Refusal)
  pub answers : Answers call old answer new
  pub says : status ≡ answer_status answer
  pub told : is ≡ move_after answer was

-- a text is handed over, or nothing
abbrev pub Hands : Option Text → List ℕ → List ℕ → ℕ → Type 0
Hands (Some (Ok text)) old new len = Holds old new text.items × (len ≡ length text.items)
Hands (Some (Err fault)) old new len = HandsNothing old new len
Hands None old new len = HandsNothing old new len

-- the session gave such a text, and that was handed over
pub record Texts (call : Session → Text → Session → Type 0) (old new : Option Session) (status : ℕ)
    (was is : List ℕ) (len : ℕ) : Type 0 where
  pub answer : Option Text
  pub answers : Answers call old answer new
  pub says : status ≡ text_status answer
  pub hands : Hands answer was is len

-- the status of the answer where a session stands; 12 where there is no session
abbrev pub standing_status : Option Standing → ℕ
standing_status None = 12
standing_status (Some now) = 0

-- what C gets of it: as it was, where there is no session
abbrev pub standing_after : Option Standing → Standing → Standing
standing_after None old = old
standing_after (Some now) old = now

-- where the session stands was told
pub record Stands (old new : Option Session) (status : ℕ) (was is : Standing) : Type 0 where
  pub answer : Option Standing
  pub answers : Answers StandsThere old answer new
  pub says : status ≡ standing_status answer
  pub told : is ≡ standing_after answer was

-- the session went to this position, or as far as it could, and that was told
pub record Travels (position : ℕ) (old new : Option Session) (status : ℕ) : Type 0 where
  pub answer : Option (Option StepFault)
  pub answers : Answers (Travelled position) old answer new
  pub says : status ≡ travel_status answer
