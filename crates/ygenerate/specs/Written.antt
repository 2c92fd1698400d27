-- What the generator promises of the files that it reads and writes.
use Rattle.std.specs.Prelude.{ℕ, ◌≡◌, ◌⊎◌, ◌++◌, Bool, true, false, List, Option, Some, None}
use Rattle.std.specs.Prelude.{Result, Ok, Err, codes}
use Rattle.std.specs.Io.KnownBytes.{Appends}
use Rattle.ylalr.specs.Collection.{Guide, IsGuide}
use Rattle.ylink.specs.declared.link.Link.{Link}
use Rattle.ylink.specs.Link.{device_of, has_failed}
use Rattle.ytables.specs.declared.tables.Counts.{Counts}
use Rattle.ytables.specs.Tables.{TablesValue}
use Rattle.ytables.specs.Table.{table_of}
use Rattle.ytables.specs.Report.{report_of}
use Rattle.ygenerate.specs.declared.generate.GenerateFault.{GenerateFault}
use Rattle.ygenerate.specs.declared.generate.GenerateFault.TheVariants.{Source, Unopened, NoRoom}
use Rattle.ygenerate.specs.declared.generate.GenerateFault.TheVariants.{Unwritten}
use Rattle.ygenerate.specs.declared.generate.Text.{Text}
use Rattle.ygenerate.specs.declared.generate.Text.TheVariants.{Table, Report}
use Rattle.ygenerate.specs.Sources.{HasTables, SourceFails}

-- the text that is written of tables
abbrev pub text_of : TablesValue → Guide → Text → List ℕ
text_of t u Table = table_of t
text_of t u Report = report_of t u

-- what follows the prefix in the name of its file (POSIX yacc, "Output Files")
abbrev pub ending_of : Text → List ℕ
ending_of Table = codes ".tab"
ending_of Report = codes ".output"

-- the path of its file
abbrev pub path_of : List ℕ → Text → List ℕ
path_of prefix text = prefix ++ ending_of text

-- what a device holds is a beginning of what it held, where that is known, and then the text
abbrev pub HoldsFront : Option (List ℕ) → Option (List ℕ) → List ℕ → Type 0
HoldsFront None new text = Unit {0}
HoldsFront (Some xs) None text = ⊥
HoldsFront (Some xs) (Some ys) text = (rest : List ℕ) × (xs ++ text ≡ ys ++ rest)

-- what a device took of a text: all of it, and where a call of it failed no more than a beginning
pub record Takes (old new : Option (List ℕ)) (failed : Bool) (text : List ℕ) : Type 0 where
  pub whole : failed ≡ false → Appends old new text
  pub front : HoldsFront old new text

-- why the file of a text isn't open: it refuses, or memory ran out; then nothing was opened
abbrev pub OpenFails : {D : Type 0} → (D → List ℕ → Type 0) → List ℕ → Text → D → D → GenerateFault
    → Type 0
OpenFails unwritable path text old new (Unopened failed) =
    (failed ≡ text) × unwritable old path × (new ≡ old)
OpenFails unwritable path text old new (NoRoom failed) = (failed ≡ text) × (new ≡ old)
OpenFails unwritable path text old new (Source fault) = ⊥
OpenFails unwritable path text old new (Unwritten failed) = ⊥

module _ {D F : Type 0} (closes : D → Link F → Bool → D → Type 0)
    (contents : F → Option (List ℕ)) where
  -- an open file took the text, all of it, or where a call of it failed no more than a beginning;
  -- then it was flushed and closed, and this is the answer: whether no call of it failed
  pub record Fills (t : TablesValue) (text : Text) (done : Bool) (file : F) (old new : D)
      : Type 0 where
    pub link : Link F
    pub takes : (u : Guide) → IsGuide t.built u
        → Takes (contents file) (contents (device_of link)) (has_failed link) (text_of t u text)
    pub closed : closes old link done new
    pub failed : has_failed link ≡ true → done ≡ false

  -- how writing to an open file ended: it took the text; or a call of it failed
  abbrev pub FillsBy : TablesValue → Text → F → D → D → Result (Unit {0}) GenerateFault → Type 0
  FillsBy t text file old new (Ok done) = Fills t text true file old new
  FillsBy t text file old new (Err (Unwritten failed)) =
      (failed ≡ text) × Fills t text false file old new
  FillsBy t text file old new (Err (NoRoom failed)) = ⊥
  FillsBy t text file old new (Err (Source fault)) = ⊥
  FillsBy t text file old new (Err (Unopened failed)) = ⊥

module _ {D F : Type 0} (opens : D → List ℕ → F → D → Type 0)
    (closes : D → Link F → Bool → D → Type 0) (contents : F → Option (List ℕ)) where
  -- from one folder to the next, a file was opened once at this path, took the text, and was closed
  -- with this answer
  pub record Writes (path : List ℕ) (t : TablesValue) (text : Text) (done : Bool) (old new : D)
      : Type 0 where
    pub file : F
    pub between : D
    pub opened : opens old path file between
    pub filled : Fills closes contents t text done file between new

  -- the table was written, and then the report where it is wanted
  abbrev pub WritesAll : List ℕ → TablesValue → Bool → D → D → Type 0
  WritesAll prefix t true old new = (between : D)
      × Writes (path_of prefix Table) t Table true old between
      × Writes (path_of prefix Report) t Report true between new
  WritesAll prefix t false old new = Writes (path_of prefix Table) t Table true old new

  module _ (unwritable : D → List ℕ → Type 0) (prefix : List ℕ) (t : TablesValue) where
    -- why a text wasn't written to its file: it isn't open, also where memory ran out; or a call of
    -- it failed
    abbrev pub WriteFails : Text → D → D → GenerateFault → Type 0
    WriteFails text old new (Unwritten failed) =
        (failed ≡ text) × Writes (path_of prefix text) t text false old new
    WriteFails text old new fault = OpenFails unwritable (path_of prefix text) text old new fault

    -- why not all was written: the table wasn't, and the report was not opened; or the table was,
    -- but the report, which is wanted, wasn't
    abbrev pub AllFail : Bool → D → D → GenerateFault → Type 0
    AllFail verbose old new fault =
        WriteFails Table old new fault
        ⊎ ((verbose ≡ true) × (between : D)
        × Writes (path_of prefix Table) t Table true old between
        × WriteFails Report between new fault)

module _ {D F : Type 0} (reads : D → List ℕ → List ℕ → D → Type 0)
    (unreadable : D → List ℕ → Type 0) (opens : D → List ℕ → F → D → Type 0)
    (unwritable : D → List ℕ → Type 0) (closes : D → Link F → Bool → D → Type 0)
    (contents : F → Option (List ℕ)) (grammar prefix : List ℕ) (verbose : Bool) (old new : D) where
  -- all was written that is wanted of the tables of the grammar file, and these are the conflicts of
  -- all their cells
  pub record Generates (counts : Counts) : Type 0 where
    pub tables : TablesValue
    pub between : D
    pub has : HasTables reads grammar old between tables
    pub shift_reduce : counts.shift_reduce ≡ tables.shift_reduce
    pub reduce_reduce : counts.reduce_reduce ≡ tables.reduce_reduce
    pub wrote : WritesAll opens closes contents prefix tables verbose between new

  -- there are tables of the grammar file, and not all was written
  pub record Stops (fault : GenerateFault) : Type 0 where
    pub tables : TablesValue
    pub between : D
    pub has : HasTables reads grammar old between tables
    pub fails : AllFail opens closes contents unwritable prefix tables verbose between new fault

  -- how it ended: all was written; or there are no tables, and nothing was opened to be written; or
  -- not all was written
  abbrev pub Generated : Result Counts GenerateFault → Type 0
  Generated (Ok counts) = Generates counts
  Generated (Err (Source fault)) = SourceFails reads unreadable grammar old new fault
  Generated (Err fault) = Stops fault
