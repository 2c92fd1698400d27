-- The content of a parser in place, and what it keeps.
use Rattle.std.specs.Prelude.{ℕ, ◌≤◌, IsTrue}
use Rattle.ytables.specs.Tables.{TablesValue as Tables}
use Rattle.ytokens.specs.declared.tokens.Tokens.{Tokens}
use Rattle.ymachine.specs.declared.parts.Parts.{Parts}
use Rattle.ytokens.specs.Tokens.{Fits, symbols_of}
use Rattle.ymachine.specs.Sound.{Sound}
use Rattle.ymachine.specs.Content.{Place, valid}
use Rattle.ymachine.specs.Parts.{content_of, HasRoom}

-- what the parts hold, with what stays
abbrev pub place_of : Tables → Tokens → Parts → Place
place_of t tokens parts = record {
  tables = t;
  tokens = symbols_of tokens;
  content = content_of parts;
}

-- there is room for a walk over so many open nodes
pub record IsPlace (t : Tables) (tokens : Tokens) (parts : Parts) (most : ℕ) : Type 0 where
  pub input : Fits t.built.grammar (symbols_of tokens)
  pub valid : IsTrue (valid (place_of t tokens parts))
  pub room : HasRoom parts
  pub walk : parts.steps ≤ most

-- what every parse in place keeps
pub record IsKept (p : Place) : Type 0 where
  pub input : Fits p.tables.built.grammar p.tokens
  pub valid : IsTrue (valid p)
  pub sound : Sound p.tables
