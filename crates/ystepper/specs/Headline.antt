-- What the stepper promises of the bytes that it reads and writes.
use Rattle.std.specs.Prelude.{ℕ, ◌≡◌, ◌<◌, ◌^◌, Bool, true, false, List, length, Option, IfSome}
use Rattle.std.specs.Prelude.{Result, Ok, Err}
use Rattle.ylink.specs.declared.link.Link.{Link}
use Rattle.ylink.specs.Link.{device_of}
use Rattle.ytables.specs.Tables.{TablesValue}
use Rattle.ysymbols.specs.Grammar.{GrammarValue}
use Rattle.ytokens.specs.Reading.{Gives, TokensOf}
use Rattle.ymachine.specs.Machine.{Machine}
use Rattle.ymachine.specs.MachineOver.{machine_over}
use Rattle.ymachine.specs.History.{History, first_history}
use Rattle.ymachine.specs.Headline.{IsMachineOf}
use Rattle.ymachine.specs.Rightmost.{UnwindsRight}
use Rattle.ystepper.specs.declared.fault.SessionFault.{SessionFault}
use Rattle.ystepper.specs.declared.fault.SessionFault.TheVariants as streams
use Rattle.ystepper.specs.declared.stepper.StepperFault.{StepperFault}
use Rattle.ystepper.specs.declared.stepper.StepperFault.TheVariants.{Source, Unread, NoRoom, Tokens}
use Rattle.ystepper.specs.declared.stepper.StepperFault.TheVariants.{Session}
use Rattle.ygenerate.specs.Sources.{AreTablesOf, HasTables, SourceFails}
use Rattle.ystepper.specs.Plain.{HasOneText}
use Rattle.ystepper.specs.Reached.{ReachesHistories}
use Rattle.ystepper.specs.Transcript.{Tells}

-- The machine is that of the grammar: its cells are those of the merged canonical LR(1) items. The
-- history is the first configuration of the tokens which the file means. What the machine accepts
-- without error steps unwinds to a rightmost derivation of these tokens from the start symbol.
pub record Parses (v : GrammarValue) (tokens : List ℕ) (m : Machine) (h : History) : Type 0 where
  pub goes : IsMachineOf v m
  pub symbols : List ℕ
  pub names : TokensOf v tokens (Ok symbols)
  pub first : h ≡ first_history symbols
  pub derives : (later : History) → UnwindsRight v.bare m symbols later

-- the machine is that of the grammar which the first text means, by its tables; the history is the
-- start of a parse of the tokens which the second text means
pub record Begins (source tokens : List ℕ) (m : Machine) (h : History) : Type 0 where
  pub tables : TablesValue
  pub are : AreTablesOf source tables
  pub machine : m ≡ machine_over tables
  pub parses : Parses tables.built.grammar tokens m h

module _ {D : Type 0} (reads : D → List ℕ → List ℕ → D → Type 0) where
  -- these are the tokens of the file at this path, for such tables
  pub record HasTokens (path : List ℕ) (old new : D) (t : TablesValue) (symbols : List ℕ)
      : Type 0 where
    pub text : List ℕ
    pub read : reads old path text new
    pub names : TokensOf t.built.grammar text (Ok symbols)

  -- why there are no tokens of the file at this path, for such tables: it can't be read, and isn't;
  -- or it was read, and its text has a fault
  abbrev pub TokensFail : (D → List ℕ → Type 0) → List ℕ → D → D → TablesValue → StepperFault
      → Type 0
  TokensFail unreadable path old new t Unread = unreadable old path × (new ≡ old)
  TokensFail unreadable path old new t NoRoom = new ≡ old
  TokensFail unreadable path old new t (Tokens fault) =
      (text : List ℕ) × reads old path text new × Gives t.built.grammar text (Err fault)
  TokensFail unreadable path old new t (Source fault) = ⊥
  TokensFail unreadable path old new t (Session fault) = ⊥

module _ {D : Type 0} (reads : D → List ℕ → List ℕ → D → Type 0) (grammar tokens : List ℕ)
    (old new : D) where
  -- a session starts so over the texts of these two files: the grammar's was read, then the tokens'
  pub record Starts (m : Machine) (h : History) : Type 0 where
    pub source : List ℕ
    pub between : D
    pub told : reads old grammar source between
    pub text : List ℕ
    pub names : reads between tokens text new
    pub begins : Begins source text m h

module _ {D : Type 0} (reads : D → List ℕ → List ℕ → D → Type 0)
    (unreadable : D → List ℕ → Type 0) (grammar tokens : List ℕ) (old new : D) where
  -- there are no tokens for tables of the grammar
  pub record LacksTokens (fault : StepperFault) : Type 0 where
    pub between : D
    pub tables : TablesValue
    pub has : HasTables reads grammar old between tables
    pub fails : TokensFail reads unreadable tokens between new tables fault

  -- why there is no session: there are no tables, and then the tokens were not opened; or there are
  -- tables and no tokens
  abbrev pub StartFails : StepperFault → Type 0
  StartFails (Source fault) = SourceFails reads unreadable grammar old new fault
  StartFails fault = LacksTokens fault

-- nothing was read or written
pub record Rests {R W : Type 0} (r : R) (reader : Link R) (w : W) (writer : Link W) : Type 0 where
  pub reader_stays : device_of reader ≡ r
  pub writer_stays : device_of writer ≡ w

module _ {D : Type 0} (reads : D → List ℕ → List ℕ → D → Type 0)
    (unreadable : D → List ℕ → Type 0) (grammar tokens : List ℕ) (old new : D) {R W : Type 0}
    (remaining : R → Option (List ℕ)) (contents : W → Option (List ℕ))
    (r : R) (reader : Link R) (w : W) (writer : Link W) where
  -- A session was served from such a start: where the bytes of the reader are known, what was
  -- written is a text of the machine for them, and after a fault a beginning of one. The text is a
  -- function of the lines, unless memory runs out. Whatever history the replies come to is one of
  -- these tokens, and its forms, where it is accepted without error steps, are a rightmost
  -- derivation: so what `unwind` writes is one.
  pub record Served (ending : Result (Unit {0}) SessionFault) : Type 0 where
    pub machine : Machine
    pub history : History
    pub starts : Starts reads grammar tokens old new machine history
    pub plain : (lines : List (List ℕ)) → HasOneText machine history lines
    pub reached : ReachesHistories starts.begins.tables.built.grammar.bare machine
        starts.begins.parses.symbols history
    pub tells : IfSome (remaining r) (λ input. length input < 2 ^ 63 →
        Tells machine history input (remaining (device_of reader)) (contents w)
        (contents (device_of writer)) ending)

  -- how it ended: a session was served, or there was none, and nothing was read or written
  abbrev pub Ends : Result (Unit {0}) StepperFault → Type 0
  Ends (Ok done) = Served (Ok done)
  Ends (Err (Session fault)) = Served (Err fault)
  Ends (Err fault) = StartFails reads unreadable grammar tokens old new fault × Rests r reader w writer

-- whether the link of the reader failed
abbrev pub reader_failed : Result (Unit {0}) StepperFault → Bool
reader_failed (Err (Session streams.Read)) = true
reader_failed _ = false

-- whether the link of the writer failed
abbrev pub writer_failed : Result (Unit {0}) StepperFault → Bool
writer_failed (Err (Session streams.Write)) = true
writer_failed _ = false
