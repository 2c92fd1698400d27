-- Sessions in which no step or edit is refused when memory runs out: their text is a function of
-- the lines.
use Rattle.std.specs.Prelude.{ℕ, ◌≡◌, ◌≢◌, ◌⊎◌, ◌++◌, List, Result, Err, codes}
use Rattle.ymachine.specs.declared.machine.StepKind.{StepKind}
use Rattle.ymachine.specs.declared.machine.StepFault.{StepFault}
use Rattle.ymachine.specs.declared.machine.StepFault.TheVariants.{Memory}
use Rattle.ymachine.specs.Machine.{Machine, next}
use Rattle.ymachine.specs.Past.{Steps}
use Rattle.ymachine.specs.History.{History}
use Rattle.ymachine.specs.declared.machine.Edit.{Edit}
use Rattle.ystepper.specs.Command.{Command}
use Rattle.ystepper.specs.Reply.{ReplyBy, Edits}
use Rattle.ystepper.specs.Transcript.{Transcript, TranscriptBy}

-- what a step answers and leaves, where it isn't refused when memory runs out
abbrev pub PlainSteps : Machine → History → Result StepKind StepFault → History → Type 0
PlainSteps m h result new = Steps (next m) h result new × (result ≢ Err Memory)

-- what an edit answers and leaves, where it isn't refused when memory runs out
abbrev pub PlainEdits : Machine → Edit → History → Result StepKind StepFault → History → Type 0
PlainEdits m edit h result new = Edits m edit h result new × (result ≢ Err Memory)

-- a reply by such steps and edits
abbrev pub PlainReply : Machine → History → Command → List ℕ → History → Type 0
PlainReply m h command text new = ReplyBy (PlainSteps m) (PlainEdits m) m h command text new

-- a text of a session by such replies
abbrev pub PlainTranscript : Machine → History → List (List ℕ) → List ℕ → Type 0
PlainTranscript m h lines text = TranscriptBy (PlainReply m) h lines text

-- `no memory` stands in the text, at the end of a line
pub record SaysNoMemory (text : List ℕ) : Type 0 where
  pub before : List ℕ
  pub after : List ℕ
  pub parts : text ≡ before ++ (codes "no memory\n" ++ after)

-- Where no step or edit is refused when memory runs out, these lines have exactly one text; any
-- other text of theirs says `no memory`.
pub record HasOneText (m : Machine) (h : History) (lines : List (List ℕ)) : Type 0 where
  pub text : List ℕ
  pub plain : PlainTranscript m h lines text
  pub told : Transcript m h lines text
  pub only : (other : List ℕ) → PlainTranscript m h lines other → other ≡ text
  pub otherwise : (other : List ℕ) → Transcript m h lines other
      → (other ≡ text) ⊎ SaysNoMemory other
