-- The tables of a grammar: of its bytes, and of a file.
use Rattle.std.specs.Prelude.{ℕ, ◌≡◌, ◌≤◌, List, length}
use Rattle.ysymbols.specs.Grammar.{GrammarValue, longest_file}
use Rattle.ysyntax.specs.declared.fault.GrammarFault.TheVariants as grammars
use Rattle.ygrammar.specs.GrammarOf.{IsGrammarOf, IsFaultOf}
use Rattle.ylalr.specs.Collection.{HasStates, IsFault, Guide, IsGuide}
use Rattle.ytables.specs.Tables.{TablesValue, AreTables}
use Rattle.ygenerate.specs.declared.source.SourceFault.{SourceFault}
use Rattle.ygenerate.specs.declared.source.SourceFault.TheVariants.{Unread, NoRoom, Grammar, Build}
use Rattle.ygenerate.specs.declared.source.SourceFault.TheVariants.{Tables}

-- the tables of the grammar that these bytes mean: the states are right, fewer than 16,385, and so
-- are the cells; the guide has the gotos and the lookaheads
pub record AreTablesOf (source : List ℕ) (t : TablesValue) : Type 0 where
  pub grammar : IsGrammarOf source t.built.grammar
  pub states : HasStates t.built
  pub cells : AreTables t
  pub guide : Guide
  pub guides : IsGuide t.built guide

-- why there are no tables: a fault of the grammar file, too many item sets, or no memory; a file
-- that is too long is never answered with no memory
abbrev pub NoTables : List ℕ → SourceFault → Type 0
NoTables source (Grammar grammars.Memory) = length source ≤ longest_file
NoTables source (Grammar fault) = IsFaultOf source fault
NoTables source (Build fault) = (v : GrammarValue) × IsGrammarOf source v × IsFault v.bare fault
NoTables source Tables = (v : GrammarValue) × IsGrammarOf source v
NoTables source Unread = ⊥
NoTables source NoRoom = ⊥

module _ {D : Type 0} (reads : D → List ℕ → List ℕ → D → Type 0) where
  -- the tables are those of the grammar file at this path, which was read
  pub record HasTables (path : List ℕ) (old new : D) (t : TablesValue) : Type 0 where
    pub source : List ℕ
    pub read : reads old path source new
    pub are : AreTablesOf source t

  -- why there are no tables of the file at this path: it can't be read, and isn't; or it was read, and
  -- its bytes have no tables
  abbrev pub SourceFails : (D → List ℕ → Type 0) → List ℕ → D → D → SourceFault → Type 0
  SourceFails unreadable path old new Unread = unreadable old path × (new ≡ old)
  SourceFails unreadable path old new NoRoom = new ≡ old
  SourceFails unreadable path old new fault =
      (source : List ℕ) × reads old path source new × NoTables source fault
