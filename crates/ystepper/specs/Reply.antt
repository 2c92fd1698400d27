-- What a command replies, and the history that it leaves.
use Rattle.std.specs.Prelude.{ℕ, suc, ◌≡◌, ◌≢◌, ◌⊎◌, ◌-◌, nat_lt, Bool, true, false, List, [], ◌∷◌}
use Rattle.std.specs.Prelude.{◌++◌, length, decimal, codes, if◌then◌else◌, Result, Ok}
use Rattle.std.specs.Prelude.{Err, Option}
use Prim.Native.Nat.{zero}
use Rattle.ymachine.specs.declared.machine.Mode.{Mode}
use Rattle.ymachine.specs.declared.machine.Mode.TheVariants.{Running, Popping, Accepted, Failed}
use Rattle.ymachine.specs.declared.machine.StepKind.{StepKind}
use Rattle.ymachine.specs.declared.machine.StepKind.TheVariants as kinds
use Rattle.ymachine.specs.declared.machine.StepFault.{StepFault}
use Rattle.ymachine.specs.declared.machine.StepFault.TheVariants.{Halted, NoToken, Limit, Memory}
use Rattle.ymachine.specs.declared.machine.Edit.{Edit}
use Rattle.ymachine.specs.declared.machine.Edit.TheVariants as edit
use Rattle.ystepper.specs.Command.{Command, Run, Back, To, Show, Tree, Unwind, Insert, Drop}
use Rattle.ystepper.specs.Command.{Unknown}
use Rattle.ylink.specs.declared.link.Link.{Link}
use Rattle.ylink.specs.Sends.{Sends}
use Rattle.ytables.specs.Text.{spaced_names}
use Rattle.ymachine.specs.Machine.{Machine, Configuration, symbols, next, edited}
use Rattle.ymachine.specs.Past.{Steps, Changes, position, back_by, to_first}
use Rattle.ymachine.specs.History.{History}
use Rattle.ymachine.specs.Spelling.{IsSpelled}
use Rattle.ymachine.specs.Unwinding.{NoErrors, tokens_left, tree_lines, forms_text}

-- the words of a step or an edit
abbrev pub kind_word : StepKind → List ℕ
kind_word (kinds.Shift symbol) = codes "shift "
kind_word (kinds.Reduce rule) = codes "reduce "
kind_word kinds.Accept = codes "accept"
kind_word kinds.Detect = codes "detect"
kind_word (kinds.Pop symbol) = codes "pop "
kind_word kinds.ShiftError = codes "shift error"
kind_word (kinds.Discard symbol) = codes "discard "
kind_word kinds.Fail = codes "fail"
kind_word (kinds.Insert symbol) = codes "insert "
kind_word (kinds.Drop symbol) = codes "drop "

-- the name or the rule number that follows them
abbrev pub kind_tail : Machine → StepKind → List ℕ
kind_tail m (kinds.Shift symbol) = m.name symbol
kind_tail m (kinds.Reduce rule) = decimal rule
kind_tail m kinds.Accept = []
kind_tail m kinds.Detect = []
kind_tail m (kinds.Pop symbol) = m.name symbol
kind_tail m kinds.ShiftError = []
kind_tail m (kinds.Discard symbol) = m.name symbol
kind_tail m kinds.Fail = []
kind_tail m (kinds.Insert symbol) = m.name symbol
kind_tail m (kinds.Drop symbol) = m.name symbol

-- a position, a separator, the words of a step
abbrev pub step_line : Machine → ℕ → List ℕ → StepKind → List ℕ
step_line m at between kind =
    decimal at ++ (between ++ (kind_word kind ++ (kind_tail m kind ++ codes "\n")))

-- what a refused step or edit writes, where steps were made before or not
abbrev pub refusal : Bool → StepFault → List ℕ
refusal made Halted = if made then [] else codes "halted\n"
refusal made NoToken = codes "no token\n"
refusal made Limit = codes "limit\n"
refusal made Memory = codes "no memory\n"

-- a step's line, and then what comes later; or why there is no step, which ends the command
abbrev pub GoesOn : Machine → Bool → (History → List ℕ → History → Type 0)
    → Result StepKind StepFault → History → List ℕ → History → Type 0
GoesOn m made later (Ok kind) mid text new =
    (more : List ℕ) × (text ≡ step_line m (position mid) (codes " ") kind ++ more)
    × later mid more new
GoesOn m made later (Err fault) mid text new = (text ≡ refusal made fault) × (new ≡ mid)

-- the line of an edit that was made, or why it was not
abbrev pub edit_text : Machine → History → Result StepKind StepFault → List ℕ
edit_text m h (Ok kind) = step_line m (position h) (codes " ") kind
edit_text m h (Err fault) = refusal false fault

-- the lines of at most n undos, each with the position after it; `at start` where nothing could be
-- undone
abbrev pub undo_text : Machine → ℕ → Bool → List (StepKind × Configuration) → List ℕ
undo_text m zero made past = []
undo_text m (suc n) made [] = if made then [] else codes "at start\n"
undo_text m (suc n) made (s ∷ past) =
    step_line m (length past) (codes " undo ") s.0 ++ undo_text m n true past

-- at most n undos with a line for each
abbrev pub GoesBack : Machine → ℕ → History → List ℕ → History → Type 0
GoesBack m n h text new = (text ≡ undo_text m n false h.earlier) × (new ≡ back_by n h)

-- the word of a mode
abbrev pub mode_word : Mode → List ℕ
mode_word Running = codes "running"
mode_word Popping = codes "popping"
mode_word Accepted = codes "accepted"
mode_word Failed = codes "failed"

-- the position, the mode, and what begins the line of the stack
abbrev pub head_text : History → List ℕ
head_text h = decimal (position h) ++ (codes " " ++ (mode_word h.now.mode ++ codes "\nstack:"))

-- the symbols of the stack from the bottom
abbrev pub stack_text : Machine → History → List ℕ
stack_text m h = spaced_names m.name (symbols h.now.stack)

-- the upcoming tokens
abbrev pub rest_text : Machine → History → List ℕ
rest_text m h = spaced_names m.name (tokens_left h.now.rest)

-- the recovery counter and the errors reported
abbrev pub errors_text : History → List ℕ
errors_text h =
    codes "\ncounter: " ++ (decimal h.now.counter
    ++ (codes "\nerrors: " ++ (decimal h.now.errors ++ codes "\n")))

-- the five lines of a configuration
abbrev pub configuration_text : Machine → History → List ℕ
configuration_text m h =
    head_text h ++ (stack_text m h ++ (codes "\nrest:" ++ (rest_text m h ++ errors_text h)))

-- the forms of an accepted parse without error steps, from the last to the first, and then its
-- start; or why it can't be unwound
abbrev pub Unwinds : Machine → History → List ℕ → History → Type 0
Unwinds m h text new =
    ((h.now.mode ≢ Accepted) × (text ≡ codes "not accepted\n") × (new ≡ h))
    ⊎ (((h.now.mode ≡ Accepted) × (NoErrors h.earlier → ⊥) × (text ≡ codes "had error\n")
    × (new ≡ h))
    ⊎ ((h.now.mode ≡ Accepted) × NoErrors h.earlier × (text ≡ forms_text m h)
    × (new ≡ to_first h)))

module _ (takes : History → Result StepKind StepFault → History → Type 0) (m : Machine) where
  -- at most n steps with a line for each, some having been made before or none
  abbrev pub RunsBy : ℕ → Bool → History → List ℕ → History → Type 0
  RunsBy zero made h text new = (text ≡ []) × (new ≡ h)
  RunsBy (suc n) made h text new =
      (result : Result StepKind StepFault) × (mid : History) × takes h result mid
      × GoesOn m made (RunsBy n true) result mid text new

  -- to a position: as many steps as it is above the one now, or as many undos as it is below
  abbrev pub GoesToBy : ℕ → Bool → History → List ℕ → History → Type 0
  GoesToBy k true h text new = RunsBy (k - position h) false h text new
  GoesToBy k false h text new = GoesBack m (position h - k) h text new

module _ (takes : History → Result StepKind StepFault → History → Type 0) (edits : Edit → History
    → Result StepKind StepFault → History → Type 0) (m : Machine) where
  -- an edit and its line, or why the edit can't be made
  abbrev pub EditsBy : Edit → History → List ℕ → History → Type 0
  EditsBy edit h text new =
      (result : Result StepKind StepFault) × edits edit h result new
      × (text ≡ edit_text m new result)

  -- the token that the bytes spell is inserted; or they spell none, and nothing changes
  abbrev pub InsertsBy : List ℕ → History → List ℕ → History → Type 0
  InsertsBy bytes h text new =
      ((token : ℕ) × IsSpelled m bytes token × EditsBy (edit.Insert token) h text new)
      ⊎ (((token : ℕ) → IsSpelled m bytes token → ⊥) × (text ≡ codes "bad token\n") × (new ≡ h))

  -- by what a step and an edit may answer and leave: the command may reply this text and leave the
  -- history new
  abbrev pub ReplyBy : History → Command → List ℕ → History → Type 0
  ReplyBy h (Run n) text new = RunsBy takes m n false h text new
  ReplyBy h (Back n) text new = GoesBack m n h text new
  ReplyBy h (To k) text new = GoesToBy takes m k (nat_lt (position h) k) h text new
  ReplyBy h Show text new = (text ≡ configuration_text m h) × (new ≡ h)
  ReplyBy h Tree text new = (text ≡ tree_lines m h.now.stack) × (new ≡ h)
  ReplyBy h Unwind text new = Unwinds m h text new
  ReplyBy h (Insert bytes) text new = InsertsBy bytes h text new
  ReplyBy h Drop text new = EditsBy edit.Drop h text new
  ReplyBy h Unknown text new = (text ≡ codes "unknown command\n") × (new ≡ h)

-- what an edit may answer and leave
abbrev pub Edits : Machine → Edit → History → Result StepKind StepFault → History → Type 0
Edits m edit h result new = Changes (next m) (edited m edit) h result new

-- where history h is, the command may reply this text and leave the history new
abbrev pub Reply : Machine → History → Command → List ℕ → History → Type 0
Reply m h command text new = ReplyBy (Steps (next m)) (Edits m) m h command text new

-- at most n steps of the machine
abbrev pub Runs : Machine → ℕ → Bool → History → List ℕ → History → Type 0
Runs m n made h text new = RunsBy (Steps (next m)) m n made h text new

-- to a position by steps and undos of the machine
abbrev pub GoesTo : Machine → ℕ → Bool → History → List ℕ → History → Type 0
GoesTo m k above h text new = GoesToBy (Steps (next m)) m k above h text new

-- A reply to the command was sent, and the history is as it leaves it; or a beginning of one, where
-- the link failed.
abbrev pub Answers : {W : Type 0} → (W → Option (List ℕ)) → Link W → Link W → Bool → Machine
    → History → Command → History → Type 0
Answers contents old new true m h command now =
    (text : List ℕ) × Reply m h command text now × Sends contents old new true text
Answers contents old new false m h command now =
    (text : List ℕ) × (left : History) × Reply m h command text left
    × Sends contents old new false text
