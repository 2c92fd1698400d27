-- What both programs say of the words, of a grammar file and of their end: their message and their
-- exit status.
use Rattle.std.specs.Prelude.{ℕ, ◌≡◌, ◌≢◌, false, List, [], Option}
use Rattle.std.specs.Borrow.{Bor}
use Rattle.std.specs.Io.KnownBytes.{Appends}
use Rattle.clap.specs.Words.{App, IsAmong, fault_of}
use Rattle.clap.specs.declared.error.kind.ErrorKind.{ErrorKind}
use Rattle.clap.specs.declared.error.kind.ErrorKind.TheVariants as kinds
use Rattle.ylink.specs.declared.link.Link.{Link}
use Rattle.ylink.specs.Link.{device_of, has_failed}
use Rattle.ylink.specs.Sends.{Begins}
use Rattle.ysyntax.specs.declared.fault.GrammarFault.{GrammarFault}
use Rattle.ysyntax.specs.declared.fault.GrammarFault.TheVariants as grammars
use Rattle.ylalr.specs.declared.fault.BuildFault.{BuildFault}
use Rattle.ylalr.specs.declared.fault.BuildFault.TheVariants as building
use Rattle.ygenerate.specs.declared.message.Trouble.{Trouble}
use Rattle.ygenerate.specs.declared.message.Trouble.TheVariants.{Usage, Grammar, TooManySets}
use Rattle.ygenerate.specs.declared.message.Trouble.TheVariants.{NoMemory, CannotRead}
use Rattle.ygenerate.specs.declared.source.SourceFault.{SourceFault}
use Rattle.ygenerate.specs.declared.source.SourceFault.TheVariants as sources

-- ---- statuses, and what a fault is to a program

-- 1 where the grammar file is refused, 2 where the words are, 3 where a file fails, and for limits
abbrev pub status : Trouble → ℕ
status (Grammar fault) = 1
status Usage = 2
status _ = 3

-- the trouble that a fault of a grammar file is
abbrev pub of_grammar : GrammarFault → Trouble
of_grammar grammars.Memory = NoMemory
of_grammar fault = Grammar fault

-- why tables that were refused end the program
abbrev pub of_tables : BuildFault → Trouble
of_tables building.TooManySets = TooManySets
of_tables building.Memory = NoMemory

-- why the grammar file at this path, of which there are no tables, ends the program
abbrev pub of_source : Bor (List ℕ) → SourceFault → Trouble
of_source path sources.Unread = CannotRead path
of_source path sources.NoRoom = NoMemory
of_source path (sources.Grammar fault) = of_grammar fault
of_source path (sources.Build fault) = of_tables fault
of_source path sources.Tables = NoMemory

-- ---- what was asked for

-- the command line takes the words: they have no fault
abbrev pub AreTaken : App → List (List ℕ) → Type 0
AreTaken app words = fault_of app words ≡ []

-- the words ask for help
abbrev pub AskHelp : App → List (List ℕ) → Type 0
AskHelp app words = IsAmong kinds.DisplayHelp (fault_of app words)

-- the words have a fault that is no request for help
abbrev pub AreMistaken : App → List (List ℕ) → Type 0
AreMistaken app words =
    (kind : ErrorKind) × IsAmong kind (fault_of app words) × (kind ≢ kinds.DisplayHelp)

-- why words are refused: they have a mistake, or memory ran out
abbrev pub WordsFail : App → List (List ℕ) → Trouble → Type 0
WordsFail app words Usage = AreMistaken app words
WordsFail app words NoMemory = Unit {0}
WordsFail app words _ = ⊥

-- ---- how a run ended

-- a link was not touched, and no call of it failed
pub record IsUntouched {D : Type 0} (d : D) (link : Link D) : Type 0 where
  pub stays : device_of link ≡ d
  pub clear : has_failed link ≡ false

-- a message went to a link: all of it, or a beginning where the link failed
pub record Says {E : Type 0} (contents : E → Option (List ℕ)) (e : E) (errors : Link E)
    (text : List ℕ) : Type 0 where
  pub begins : Begins (contents e) (contents (device_of errors)) text
  pub whole : has_failed errors ≡ false → Appends (contents e) (contents (device_of errors)) text

-- some text went to a link
abbrev pub SaysSome : {W : Type 0} → (W → Option (List ℕ)) → W → Link W → Type 0
SaysSome contents w writer = (text : List ℕ) × Says contents w writer text
