-- What `yacc` does, except its exit: how a run ended, its message and its exit status.
use Rattle.std.specs.Prelude.{ℕ, ◌≡◌, ◌⊎◌, Bool, List, [], Option, Result, Ok, Err}
use Rattle.ylink.specs.declared.link.Link.{Link}
use Rattle.ytables.specs.declared.tables.Counts.{Counts}
use Rattle.ygenerate.specs.declared.arguments.YaccWords.{YaccWords}
use Rattle.ygenerate.specs.Arguments.{yacc_app, AreYaccWordsIn}
use Rattle.ygenerate.specs.declared.message.Program.TheVariants.{Yacc}
use Rattle.ygenerate.specs.declared.message.Trouble.{Trouble}
use Rattle.ygenerate.specs.declared.message.Trouble.TheVariants.{NoMemory, CannotWrite}
use Rattle.ygenerate.specs.declared.generate.GenerateFault.{GenerateFault}
use Rattle.ygenerate.specs.declared.generate.GenerateFault.TheVariants as faults
use Rattle.ygenerate.specs.declared.generate.Text.{Text}
use Rattle.ygenerate.specs.declared.generator.Done.{Done}
use Rattle.ygenerate.specs.declared.generator.Done.TheVariants.{Helped, Wrote}
use Rattle.ygenerate.specs.declared.generator.Request.{Request}
use Rattle.ygenerate.specs.declared.generator.Request.TheVariants as requests
use Rattle.ygenerate.specs.Written.{Generated, ending_of}
use Rattle.ygenerate.specs.Messages.{message, conflicts_line}
use Rattle.ygenerate.specs.Programs.{AreTaken, AskHelp, IsUntouched, Says, SaysSome, WordsFail}
use Rattle.ygenerate.specs.Programs.{of_source, status}

-- what the words ask `yacc` for
abbrev pub Asks : List (List ℕ) → Result Request Trouble → Type 0
Asks words (Ok (requests.Generate said)) = AreTaken yacc_app words × AreYaccWordsIn words said
Asks words (Ok (requests.Help text)) = AskHelp yacc_app words
Asks words (Err trouble) = WordsFail yacc_app words trouble

-- the file of this text, beside that prefix, is named as the one that can't be written
abbrev pub NamesFile : YaccWords → Text → Trouble → Type 0
NamesFile said text (CannotWrite prefix ending) =
    (prefix ≡ said.prefix) × (ending.now ≡ ending_of text)
NamesFile said text _ = ⊥

-- why `yacc` ends where not all was written
abbrev pub IsGenerating : YaccWords → GenerateFault → Trouble → Type 0
IsGenerating said (faults.Source fault) trouble = trouble ≡ of_source said.grammar fault
IsGenerating said (faults.NoRoom text) trouble = trouble ≡ NoMemory
IsGenerating said (faults.Unopened text) trouble = NamesFile said text trouble
IsGenerating said (faults.Unwritten text) trouble = NamesFile said text trouble

-- the program's answer where the generator gave this one
abbrev pub IsAnswer : YaccWords → Result Counts GenerateFault → Result Counts Trouble → Type 0
IsAnswer said (Ok counts) told = told ≡ Ok counts
IsAnswer said (Err fault) (Ok told) = ⊥
IsAnswer said (Err fault) (Err trouble) = IsGenerating said fault trouble

module _ {D F : Type 0} (reads : D → List ℕ → List ℕ → D → Type 0)
    (unreadable : D → List ℕ → Type 0) (opens : D → List ℕ → F → D → Type 0)
    (unwritable : D → List ℕ → Type 0) (closes : D → Link F → Bool → D → Type 0)
    (contents : F → Option (List ℕ)) (old new : D) where
  -- the program passes on such an answer of the generator over the files of these words
  pub record PassesOn (said : YaccWords) (told : Result Counts Trouble) : Type 0 where
    pub answer : Result Counts GenerateFault
    pub generated : Generated reads unreadable opens unwritable closes contents said.grammar.now
        said.prefix.now said.verbose old new answer
    pub is : IsAnswer said answer told

  module _ {W : Type 0} (taken : W → Option (List ℕ)) (words : List (List ℕ))
      (w : W) (writer : Link W) where
    -- the words were taken, the generator ran over their files, and its answer was passed on
    pub record Generates (told : Result Counts Trouble) : Type 0 where
      pub said : YaccWords
      pub are : AreTaken yacc_app words × AreYaccWordsIn words said
      pub passed : PassesOn said told
      pub untouched : IsUntouched w writer

    -- the words were not taken; no file was opened
    pub record Refuses (trouble : Trouble) : Type 0 where
      pub words_fail : WordsFail yacc_app words trouble
      pub stays : new ≡ old
      pub untouched : IsUntouched w writer

    -- help was asked for, and written; no file was opened
    pub record Helps : Type 0 where
      pub asked : AskHelp yacc_app words
      pub stays : new ≡ old
      pub says : SaysSome taken w writer

    -- how a run over these words ended
    abbrev pub EndsIn : Result Done Trouble → Type 0
    EndsIn (Ok Helped) = Helps
    EndsIn (Ok (Wrote counts)) = Generates (Ok counts)
    EndsIn (Err trouble) = Refuses trouble ⊎ Generates (Err trouble)

-- the line after a run that did what was asked
abbrev pub said_of : Done → List ℕ
said_of Helped = []
said_of (Wrote counts) = conflicts_line counts

-- the message of a run
abbrev pub message_after : Result Done Trouble → List ℕ
message_after (Ok done) = said_of done
message_after (Err trouble) = message Yacc trouble

-- the exit status after an end of a run
abbrev pub status_after : Result Done Trouble → ℕ
status_after (Ok done) = 0
status_after (Err trouble) = status trouble

-- what a run answers and does: its end, with the status and the message of that end
pub record Runs {D F W E : Type 0} (reads : D → List ℕ → List ℕ → D → Type 0)
    (unreadable : D → List ℕ → Type 0) (opens : D → List ℕ → F → D → Type 0)
    (unwritable : D → List ℕ → Type 0) (closes : D → Link F → Bool → D → Type 0)
    (contents : F → Option (List ℕ)) (old new : D) (taken : W → Option (List ℕ))
    (messages : E → Option (List ℕ)) (words : List (List ℕ)) (w : W) (writer : Link W)
    (e : E) (errors : Link E) (answer : ℕ) : Type 0 where
  pub ending : Result Done Trouble
  pub ends : EndsIn reads unreadable opens unwritable closes contents old new taken words w writer
      ending
  pub answers : answer ≡ status_after ending
  pub says : Says messages e errors (message_after ending)
