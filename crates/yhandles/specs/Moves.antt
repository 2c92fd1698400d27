-- What the calls that step, undo and edit answer, in C's numbers.
use Rattle.std.specs.Prelude.{ℕ, ◌≡◌, List, [], Option, Some, None, Result, Ok, Err}
use Rattle.ymachine.specs.declared.machine.AtStart.{AtStart}
use Rattle.ymachine.specs.declared.machine.Edit.{Edit}
use Rattle.ymachine.specs.declared.machine.Edit.TheVariants as edits
use Rattle.ymachine.specs.declared.machine.StepFault.{StepFault}
use Rattle.ymachine.specs.declared.machine.StepFault.TheVariants.{Halted, NoToken, Limit, Memory}
use Rattle.ymachine.specs.declared.machine.StepKind.{StepKind}
use Rattle.ymachine.specs.declared.machine.StepKind.TheVariants as kinds
use Rattle.ymachine.specs.Machine.{next, edited}
use Rattle.ymachine.specs.Past.{Steps, Changes, Undoes}
use Rattle.ymachine.specs.Spelling.{IsSpelled}
use Rattle.ysession.specs.declared.session.Session.{Session}
use Rattle.ysession.specs.Session.{history_of, machine_of, setting_of}
use Rattle.yhandles.specs.declared.moves.Move.{Move}
use Rattle.yhandles.specs.declared.moves.Refusal.{Refusal}
use Rattle.yhandles.specs.declared.moves.Refusal.TheVariants as refusals

-- an answer of a step or an edit, among all
abbrev pub of_step : Result StepKind StepFault → Result StepKind Refusal
of_step (Ok kind) = Ok kind
of_step (Err fault) = Err (refusals.Step fault)

-- what a step answers, and the session that it leaves
pub record Stepped (was : Session) (answer : Result StepKind Refusal) (is : Session) : Type 0 where
  pub made : Result StepKind StepFault
  pub told : answer ≡ of_step made
  pub steps : Steps (next (machine_of was)) (history_of was) made (history_of is)
  pub stays : setting_of is ≡ setting_of was

-- what an edit answers, and the session that it leaves
pub record Edited (edit : Edit) (was : Session) (answer : Result StepKind Refusal) (is : Session)
    : Type 0 where
  pub made : Result StepKind StepFault
  pub told : answer ≡ of_step made
  pub edits : Changes (next (machine_of was)) (edited (machine_of was) edit) (history_of was) made
      (history_of is)
  pub stays : setting_of is ≡ setting_of was

-- what an insertion answers, and the session that it leaves: the token that the bytes spell is put
-- before the upcoming tokens; or they spell none, and nothing changes
abbrev pub Inserted : List ℕ → Session → Result StepKind Refusal → Session → Type 0
Inserted bytes was (Err refusals.BadToken) is =
    ((token : ℕ) → IsSpelled (machine_of was) bytes token → ⊥) × (is ≡ was)
Inserted bytes was answer is =
    (token : ℕ) × IsSpelled (machine_of was) bytes token × Edited (edits.Insert token) was answer is

-- what an undo answers, and the session that it leaves
abbrev pub Undone : Session → Result StepKind Refusal → Session → Type 0
Undone was (Ok kind) is =
    Undoes {E = AtStart} (history_of was) (Ok kind) (history_of is)
    × (setting_of is ≡ setting_of was)
Undone was (Err refusals.AtStart) is =
    ((history_of was).earlier ≡ []) × (history_of is ≡ history_of was)
    × (setting_of is ≡ setting_of was)
Undone was (Err refusals.BadToken) is = ⊥
Undone was (Err (refusals.Step fault)) is = ⊥

-- the number of a kind
abbrev pub kind_number : StepKind → ℕ
kind_number (kinds.Shift symbol) = 1
kind_number (kinds.Reduce rule) = 2
kind_number kinds.Accept = 3
kind_number kinds.Detect = 4
kind_number (kinds.Pop symbol) = 5
kind_number kinds.ShiftError = 6
kind_number (kinds.Discard symbol) = 7
kind_number kinds.Fail = 8
kind_number (kinds.Insert symbol) = 9
kind_number (kinds.Drop symbol) = 10

-- the number of its symbol or rule; 0 where it has none
abbrev pub kind_subject : StepKind → ℕ
kind_subject (kinds.Shift symbol) = symbol
kind_subject (kinds.Reduce rule) = rule
kind_subject kinds.Accept = 0
kind_subject kinds.Detect = 0
kind_subject (kinds.Pop symbol) = symbol
kind_subject kinds.ShiftError = 0
kind_subject (kinds.Discard symbol) = symbol
kind_subject kinds.Fail = 0
kind_subject (kinds.Insert symbol) = symbol
kind_subject (kinds.Drop symbol) = symbol

-- what C gets of what was made
abbrev pub move_of : StepKind → Move
move_of kind = record { kind = kind_number kind; subject = kind_subject kind }

-- the status of a refused step or edit
abbrev pub fault_status : StepFault → ℕ
fault_status Memory = 3
fault_status Halted = 5
fault_status Limit = 6
fault_status NoToken = 8

-- the status of a refusal
abbrev pub refusal_status : Refusal → ℕ
refusal_status (refusals.Step fault) = fault_status fault
refusal_status refusals.AtStart = 7
refusal_status refusals.BadToken = 9

-- the status of an answer; 12 where there is no session
abbrev pub answer_status : Option (Result StepKind Refusal) → ℕ
answer_status None = 12
answer_status (Some (Ok kind)) = 0
answer_status (Some (Err refusal)) = refusal_status refusal

-- what C gets of the move: as it was, where none was made
abbrev pub move_after : Option (Result StepKind Refusal) → Move → Move
move_after None old = old
move_after (Some (Ok kind)) old = move_of kind
move_after (Some (Err refusal)) old = old
