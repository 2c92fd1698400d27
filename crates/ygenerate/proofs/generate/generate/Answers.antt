use Rattle.std.proofs.Common.{ℕ, Bool, List, Option, Err, inl, inr}
use Rattle.ylink.specs.declared.link.Link.{Link}
use Rattle.ygenerate.specs.declared.generate.GenerateFault.{GenerateFault}
use Rattle.ygenerate.specs.declared.generate.GenerateFault.TheVariants as faults
use Rattle.ygenerate.specs.Written.{AllFail, Generated, Stops}
use Rattle.ytables.specs.Tables.{TablesValue}
use Rattle.ygenerate.proofs.generate.generate.Goals as goal

module _ {D F : Type 0} (reads : D → List ℕ → List ℕ → D → Type 0)
    (unreadable : D → List ℕ → Type 0) (opens : D → List ℕ → F → D → Type 0)
    (unwritable : D → List ℕ → Type 0) (closes : D → Link F → Bool → D → Type 0)
    (contents : F → Option (List ℕ)) (grammar prefix : List ℕ) (verbose : Bool) (old new : D) where
  -- no text is left unwritten for want of tables
  has_tables : (t : TablesValue) (fault : _) (between : D)
      → AllFail opens closes contents unwritable prefix t verbose between new (faults.Source fault) → ⊥
  has_tables t fault between (inl is) = is
  has_tables t fault between (inr (_, _, _, is)) = is

  -- there are tables, and not all was written of them
  stops : (fault : GenerateFault)
      → Stops reads unreadable opens unwritable closes contents grammar prefix verbose old new fault
      → Generated reads unreadable opens unwritable closes contents grammar prefix verbose old new
      (Err fault)
  stops (faults.Source fault) is = absurd (has_tables is.tables fault is.between is.fails)
  stops (faults.Unopened text) is = is
  stops (faults.NoRoom text) is = is
  stops (faults.Unwritten text) is = is

pub returns-in-Err-written : goal.returns-in-Err-written
returns-in-Err-written g c =
    stops g.D.Folder.reads g.D.Folder.unreadable g.D.Folder.opens g.D.Folder.unwritable
    g.D.Folder.closes g.D.File.Write.contents c.args.grammar.now c.args.prefix.now c.args.verbose
    c.args.folder.now c.write_texts-written.new.folder c.in-Err-written.fault (record {
      tables = c.in-Ok.tables;
      between = c.tables_from.new.folder;
      has = c.in-Ok.ensures.tables;
      fails = c.in-Err-written.ensures.fails;
    })
