-- A parser whose changes keep the whole earlier content.
use Rattle.std.specs.Prelude.{Bool, IsTrue}
use Rattle.ymachine.specs.declared.snapshot.SnapshotChange.{SnapshotChange}
use Rattle.ytables.specs.Tables.{TablesValue as Tables}
use Rattle.ytokens.specs.declared.tokens.Tokens.{Tokens}
use Rattle.ytokens.specs.Tokens.{Fits, symbols_of}
use Rattle.ymachine.specs.declared.parts.Parts.{Parts}
use Rattle.ymachine.specs.Content.{Place, valid}
use Rattle.ymachine.specs.Parts.{content_of, HasRoom}
use Rattle.ymachine.specs.Place.{place_of}

-- what such a parser keeps
pub record IsSnapshot (t : Tables) (tokens : Tokens) (parts : Parts) : Type 0 where
  pub input : Fits t.built.grammar (symbols_of tokens)
  pub valid : IsTrue (valid (place_of t tokens parts))
  pub room : HasRoom parts

-- what was before a change
abbrev pub snapshot_before : SnapshotChange → Place → Place
snapshot_before change p = record p { content = content_of change.earlier }

-- whether a change can be taken back: what was before it is a content of a parse
abbrev pub snapshot_fits : SnapshotChange → Place → Bool
snapshot_fits change p = valid (snapshot_before change p)
