-- What a session writes: the words in which its promise is stated.
use Rattle.std.specs.Prelude.{ℕ, ◌≡◌, Bool, true, false, List, [], ◌∷◌, ◌++◌, Option, Some}
use Rattle.std.specs.Prelude.{Result, Ok, Err}
use Rattle.std.specs.Io.KnownBytes.{Appends, Consumes}
use Rattle.ystepper.specs.declared.fault.SessionFault.{SessionFault}
use Rattle.ystepper.specs.declared.fault.SessionFault.TheVariants as faults
use Rattle.ystepper.specs.Line.{Line}
use Rattle.ystepper.specs.Line as lines
use Rattle.ystepper.specs.Command.{Command}
use Rattle.ylink.specs.Sends.{Begins}
use Rattle.ymachine.specs.Machine.{Machine}
use Rattle.ymachine.specs.History.{History}
use Rattle.ystepper.specs.Line.{line_in}
use Rattle.ystepper.specs.Lines.{IsCut, AreLines}
use Rattle.ystepper.specs.Reply.{Reply}

module _ (replies : History → Command → List ℕ → History → Type 0) where
  -- a line ends the text, or has a reply, and then comes what is later
  abbrev pub Continues : History → Line → (History → List ℕ → Type 0) → List ℕ → Type 0
  Continues h lines.Quit later text = text ≡ []
  Continues h (lines.Command command) later text =
      (reply : List ℕ) × (more : List ℕ) × (mid : History) × replies h command reply mid
      × (text ≡ reply ++ more) × later mid more

  -- From history h: the replies to these lines, one after another, each from the history that the
  -- one before left, up to a `quit` or to the end.
  abbrev pub TranscriptBy : History → List (List ℕ) → List ℕ → Type 0
  TranscriptBy h [] text = text ≡ []
  TranscriptBy h (line ∷ rest) text =
      Continues h (line_in line) (λ mid more. TranscriptBy mid rest more) text

-- a text of a session for these lines
abbrev pub Transcript : Machine → History → List (List ℕ) → List ℕ → Type 0
Transcript m h lines text = TranscriptBy (Reply m) h lines text

-- What was written from history h on, where the input and what the writer held are known: a text
-- of the session for the input; after a failed read, one for the lines whose newline was read;
-- after a failed write, a beginning of one for the input.
abbrev pub Tells : Machine → History → List ℕ → Option (List ℕ) → Option (List ℕ) → Option (List ℕ)
    → Result (Unit {0}) SessionFault → Type 0
Tells m h input left old new (Ok done) =
    (lines : List (List ℕ)) × (text : List ℕ) × AreLines input lines × Transcript m h lines text
    × Appends old new text
Tells m h input left old new (Err faults.Read) =
    (taken : List ℕ) × (lines : List (List ℕ)) × (rest : List ℕ) × (text : List ℕ)
    × Consumes (Some input) left taken × IsCut taken lines rest × Transcript m h lines text
    × Appends old new text
Tells m h input left old new (Err faults.Write) =
    (lines : List (List ℕ)) × (text : List ℕ) × AreLines input lines × Transcript m h lines text
    × Begins old new text

-- whether the fault is that of the reader
abbrev pub failed_read : {A : Type 0} → Result A SessionFault → Bool
failed_read (Err faults.Read) = true
failed_read (Err faults.Write) = false
failed_read (Ok done) = false

-- whether the fault is that of the writer
abbrev pub failed_write : {A : Type 0} → Result A SessionFault → Bool
failed_write (Err faults.Write) = true
failed_write (Err faults.Read) = false
failed_write (Ok done) = false
