-- What the parts of a session's loop leave, between modules alone.
use Rattle.std.specs.Prelude.{ℕ, ◌≡◌, ◌==◌, ◌≤◌, ◌^◌, ◌-◌, ◌⊎◌, Bool, true, false, List, [], ◌∷◌}
use Rattle.std.specs.Prelude.{◌++◌, length, take, Option, Some, None, Result, Ok, Err}
use Rattle.std.specs.Prelude.{if◌then◌else◌}
use Rattle.std.specs.Io.KnownBytes.{Consumes, IsAtEnd}
use Rattle.ylink.specs.declared.link.Link.{Link}
use Rattle.ystepper.specs.declared.run.Flow.{Flow}
use Rattle.ystepper.specs.declared.run.Flow.TheVariants.{GoesOn, Quit}
use Rattle.ystepper.specs.declared.fault.SessionFault.{SessionFault}
use Rattle.ystepper.specs.declared.fault.SessionFault.TheVariants as faults
use Rattle.ylink.specs.Sends.{Sends}
use Rattle.ymachine.specs.Machine.{Machine}
use Rattle.ymachine.specs.History.{History}
use Rattle.ystepper.specs.Line.{line_room}
use Rattle.ystepper.specs.Lines.{last_line}
use Rattle.ystepper.specs.Transcript.{Transcript}

-- the lines that end in a newline, where so much of the first has come before
abbrev pub whole_after : List ℕ → List ℕ → List (List ℕ)
whole_after line [] = []
whole_after line (b ∷ bs) =
    if b == 10 then line ∷ whole_after [] bs else whole_after (line ++ b ∷ []) bs

-- what comes after the last newline
abbrev pub rest_after : List ℕ → List ℕ → List ℕ
rest_after line [] = line
rest_after line (b ∷ bs) = if b == 10 then rest_after [] bs else rest_after (line ++ b ∷ []) bs

-- the lines that end in a newline
abbrev pub whole_lines : List ℕ → List (List ℕ)
whole_lines bytes = whole_after [] bytes

-- what comes after the last newline of bytes
abbrev pub rest_line : List ℕ → List ℕ
rest_line bytes = rest_after [] bytes

-- all lines of an input
abbrev pub lines_of : List ℕ → List (List ℕ)
lines_of bytes = whole_lines bytes ++ last_line (rest_line bytes)

-- The replies to lines: each text of the later ones goes on from the history that they leave, or
-- a `quit` among them ends the text, whatever lines are later.
abbrev pub Replies : Machine → History → List (List ℕ) → Flow → List ℕ → History → Type 0
Replies m h lines GoesOn text left =
    (later : List (List ℕ)) (more : List ℕ) → Transcript m left later more
    → Transcript m h (lines ++ later) (text ++ more)
Replies m h lines Quit text left =
    (later : List (List ℕ)) → Transcript m h (lines ++ later) text

-- a beginning of their text was sent, whatever lines are later
abbrev pub Breaks : {W : Type 0} → (W → Option (List ℕ)) → Link W → Link W → Machine → History
    → List (List ℕ) → Type 0
Breaks contents old new m h lines =
    (later : List (List ℕ)) → (text : List ℕ) × Transcript m h (lines ++ later) text
    × Sends contents old new false text

-- after what was read of the first line: the lines were answered, or a write failed
abbrev pub ChunkTells : {W : Type 0} → (W → Option (List ℕ)) → Link W → Link W → Option Flow
    → Machine → History → List ℕ → List ℕ → History → List ℕ → Type 0
ChunkTells contents old new (Some flow) m h line bytes now held =
    (text : List ℕ) × Replies m h (whole_after line bytes) flow text now
    × Sends contents old new true text ×
    (flow ≡ GoesOn → held ≡ take line_room (rest_after line bytes))
ChunkTells contents old new None m h line bytes now held =
    Breaks contents old new m h (whole_after line bytes)

-- the same of a whole input, of which the taken bytes were read
abbrev pub ReadTells : {W : Type 0} → (W → Option (List ℕ)) → Link W → Link W → Option (List ℕ)
    → Option (List ℕ) → Result Flow SessionFault → Machine → History → History → List ℕ → Type 0
ReadTells contents old new before left (Ok flow) m h now held =
    (taken : List ℕ) × (text : List ℕ) × Consumes before left taken
    × Replies m h (whole_lines taken) flow text now × Sends contents old new true text
    × (flow ≡ GoesOn
    → (IsAtEnd left ⊎ (2 ^ 64 - 1 ≤ length taken)) × (held ≡ take line_room (rest_line taken)))
ReadTells contents old new before left (Err faults.Read) m h now held =
    (taken : List ℕ) × (text : List ℕ) × Consumes before left taken
    × Replies m h (whole_lines taken) GoesOn text now × Sends contents old new true text
ReadTells contents old new before left (Err faults.Write) m h now held =
    (taken : List ℕ) × Consumes before left taken
    × Breaks contents old new m h (whole_lines taken)

-- what a last line that lacks its newline leaves: a text for it was sent, or a beginning of one
abbrev pub Ends : {W : Type 0} → (W → Option (List ℕ)) → Link W → Link W → Bool → Machine → History
    → List ℕ → Type 0
Ends contents old new whole m h line =
    (text : List ℕ) × Transcript m h (last_line line) text × Sends contents old new whole text
