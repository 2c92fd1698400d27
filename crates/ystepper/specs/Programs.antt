-- What `ystep` does, except its exit: what it was asked for, its message and its exit status.
use Rattle.std.specs.Prelude.{ℕ, ◌≡◌, ◌⊎◌, List, [], Option, Some, None, Result, Ok, Err, codes}
use Rattle.ylink.specs.declared.link.Link.{Link}
use Rattle.ylink.specs.Link.{has_failed}
use Rattle.ytokens.specs.declared.tokens.TokenFault.{TokenFault}
use Rattle.ytokens.specs.declared.tokens.TokenFault.TheVariants as tokens
use Rattle.ygenerate.specs.declared.arguments.YstepWords.{YstepWords}
use Rattle.ygenerate.specs.Arguments.{ystep_app, ArePathsIn}
use Rattle.ygenerate.specs.declared.message.Program.TheVariants.{Ystep}
use Rattle.ygenerate.specs.declared.message.Trouble.{Trouble}
use Rattle.ygenerate.specs.declared.message.Trouble.TheVariants.{NoMemory, CannotRead}
use Rattle.ygenerate.specs.Messages as lines
use Rattle.ygenerate.specs.Messages.{message_line}
use Rattle.ygenerate.specs.Programs as troubles
use Rattle.ygenerate.specs.Programs.{AreTaken, AskHelp, IsUntouched, Says, SaysSome, WordsFail}
use Rattle.ygenerate.specs.Programs.{of_source}
use Rattle.ystepper.specs.declared.ending.Ending.{Ending}
use Rattle.ystepper.specs.declared.ending.Ending.TheVariants as endings
use Rattle.ystepper.specs.declared.fault.SessionFault.{SessionFault}
use Rattle.ystepper.specs.declared.fault.SessionFault.TheVariants as streams
use Rattle.ystepper.specs.declared.programs.Request.{Request}
use Rattle.ystepper.specs.declared.programs.Request.TheVariants as requests
use Rattle.ystepper.specs.declared.stepper.StepperFault.{StepperFault}
use Rattle.ystepper.specs.declared.stepper.StepperFault.TheVariants as starts
use Rattle.ystepper.specs.Headline.{Ends, reader_failed, writer_failed}

-- ---- why it ends early: its status and its message

-- the code of a fault of a tokens file
abbrev pub token_code : TokenFault → List ℕ
token_code (tokens.Unknown place) = codes "K1"
token_code (tokens.NotInput place) = codes "K2"
token_code tokens.TooMany = codes "K3"
token_code tokens.Memory = codes "no memory"
token_code (tokens.BadLiteral place) = codes "K5"

-- the place of the token of such a fault, where it has one
abbrev pub token_place : TokenFault → Option ℕ
token_place (tokens.Unknown place) = Some place
token_place (tokens.NotInput place) = Some place
token_place tokens.TooMany = None
token_place tokens.Memory = None
token_place (tokens.BadLiteral place) = Some place

-- the words for a fault of a session's streams
abbrev pub session_word : SessionFault → List ℕ
session_word streams.Read = codes "read fault"
session_word streams.Write = codes "write fault"

-- 1 where a file is refused, 2 where the words are, 3 where a file or stream fails, and for limits
abbrev pub status : Ending → ℕ
status (endings.Trouble trouble) = troubles.status trouble
status (endings.Tokens fault) = 1
status (endings.Session fault) = 3

-- the line that says why it ends
abbrev pub message : Ending → List ℕ
message (endings.Trouble trouble) = lines.message Ystep trouble
message (endings.Tokens fault) =
    message_line Ystep (token_code fault) (codes " at token ") (token_place fault)
message (endings.Session fault) = message_line Ystep (session_word fault) [] None

-- the message of a whole run, none where it did what was asked
abbrev pub message_after : Result (Unit {0}) Ending → List ℕ
message_after (Ok done) = []
message_after (Err ending) = message ending

-- the exit status after an end of a run
abbrev pub status_after : Result (Unit {0}) Ending → ℕ
status_after (Ok done) = 0
status_after (Err ending) = status ending

-- why a tokens file that was refused ends the program
abbrev pub of_tokens : TokenFault → Ending
of_tokens tokens.Memory = endings.Trouble NoMemory
of_tokens fault = endings.Tokens fault

-- why a stepper that did not start, or ended early, ends the program
abbrev pub of_start : YstepWords → StepperFault → Ending
of_start paths (starts.Source fault) = endings.Trouble (of_source paths.grammar fault)
of_start paths starts.Unread = endings.Trouble (CannotRead paths.tokens)
of_start paths starts.NoRoom = endings.Trouble NoMemory
of_start paths (starts.Tokens fault) = of_tokens fault
of_start paths (starts.Session fault) = endings.Session fault

-- ---- what was asked for

-- what the words ask `ystep` for
abbrev pub Asks : List (List ℕ) → Result Request Trouble → Type 0
Asks words (Ok (requests.Session paths)) = AreTaken ystep_app words × ArePathsIn words paths
Asks words (Ok (requests.Help text)) = AskHelp ystep_app words
Asks words (Err trouble) = WordsFail ystep_app words trouble

-- ---- how a run ended

-- the program's answer where the stepper gave this one
abbrev pub passed_on : YstepWords → Result (Unit {0}) StepperFault → Result (Unit {0}) Ending
passed_on paths (Ok done) = Ok done
passed_on paths (Err fault) = Err (of_start paths fault)

module _ {D : Type 0} (reads : D → List ℕ → List ℕ → D → Type 0)
    (unreadable : D → List ℕ → Type 0) (old new : D) {R W : Type 0}
    (remaining : R → Option (List ℕ)) (contents : W → Option (List ℕ))
    (r : R) (reader : Link R) (w : W) (writer : Link W) where
  -- the program passes on such an answer of the stepper over the files of these words; a link failed
  -- exactly where the answer says so
  pub record PassesOn (paths : YstepWords) (told : Result (Unit {0}) Ending) : Type 0 where
    pub answer : Result (Unit {0}) StepperFault
    pub ends : Ends reads unreadable paths.grammar.now paths.tokens.now old new remaining contents
        r reader w writer answer
    pub is : told ≡ passed_on paths answer
    pub read_fault : has_failed reader ≡ reader_failed answer
    pub write_fault : has_failed writer ≡ writer_failed answer

  module _ (words : List (List ℕ)) where
    -- the words were taken, the stepper ran over their files, and its answer was passed on
    pub record Steps (told : Result (Unit {0}) Ending) : Type 0 where
      pub paths : YstepWords
      pub are : AreTaken ystep_app words × ArePathsIn words paths
      pub passed : PassesOn paths told

    -- the words were not taken; no file was opened, and nothing was read or written
    pub record Refuses (trouble : Trouble) : Type 0 where
      pub words_fail : WordsFail ystep_app words trouble
      pub stays : new ≡ old
      pub unread : IsUntouched r reader
      pub unwritten : IsUntouched w writer

    -- help was asked for, and written; no file was opened, and nothing was read
    pub record Helps : Type 0 where
      pub asked : AskHelp ystep_app words
      pub stays : new ≡ old
      pub unread : IsUntouched r reader
      pub says : SaysSome contents w writer

    -- how a run over these words ended
    abbrev pub EndsIn : Result (Unit {0}) Ending → Type 0
    EndsIn (Ok done) = Helps ⊎ Steps (Ok done)
    EndsIn (Err (endings.Trouble trouble)) = Refuses trouble ⊎ Steps (Err (endings.Trouble trouble))
    EndsIn (Err ending) = Steps (Err ending)

-- what a run answers and does: its end, with the status and the message of that end
pub record Runs {D R W E : Type 0} (reads : D → List ℕ → List ℕ → D → Type 0)
    (unreadable : D → List ℕ → Type 0) (old new : D) (remaining : R → Option (List ℕ))
    (contents : W → Option (List ℕ)) (messages : E → Option (List ℕ)) (words : List (List ℕ))
    (r : R) (reader : Link R) (w : W) (writer : Link W) (e : E) (errors : Link E)
    (answer : ℕ) : Type 0 where
  pub ending : Result (Unit {0}) Ending
  pub ends : EndsIn reads unreadable old new remaining contents r reader w writer words ending
  pub answers : answer ≡ status_after ending
  pub says : Says messages e errors (message_after ending)
