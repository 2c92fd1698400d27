-- The table and the report of a grammar, and its conflicts.
use Rattle.std.specs.Prelude.{ℕ, ◌≡◌, List}
use Rattle.ylalr.specs.Collection.{Guide, IsGuide}
use Rattle.ygenerate.specs.Sources.{AreTablesOf}
use Rattle.ytables.specs.Report.{report_of}
use Rattle.ytables.specs.Table.{table_of}
use Rattle.ytables.specs.Tables.{TablesValue}
use Rattle.yembed.specs.declared.texts.Conflicts.{Conflicts}

-- the conflicts are those of all cells
pub record Counts (t : TablesValue) (counts : Conflicts) : Type 0 where
  pub shift_reduce : counts.shift_reduce ≡ t.shift_reduce
  pub reduce_reduce : counts.reduce_reduce ≡ t.reduce_reduce

-- the text is the table of the grammar that these bytes mean, and these are its conflicts
pub record IsTable (grammar : List ℕ) (counts : Conflicts) (text : List ℕ) : Type 0 where
  pub tables : TablesValue
  pub are : AreTablesOf grammar tables
  pub counted : Counts tables counts
  pub wrote : text ≡ table_of tables

-- The text is the report on the grammar that these bytes mean, by whatever pair of functions has its
-- gotos and lookaheads, and these are its conflicts.
pub record IsReport (grammar : List ℕ) (counts : Conflicts) (text : List ℕ) : Type 0 where
  pub tables : TablesValue
  pub are : AreTablesOf grammar tables
  pub counted : Counts tables counts
  pub wrote : (u : Guide) → IsGuide tables.built u → text ≡ report_of tables u
