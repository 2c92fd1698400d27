-- Why a call has no answer, and the status that says so.
use Rattle.std.specs.Prelude.{ℕ, ◌≡◌, List, Err}
use Rattle.ysyntax.specs.declared.fault.GrammarFault.TheVariants as grammars
use Rattle.ylalr.specs.declared.fault.BuildFault.TheVariants as building
use Rattle.ygenerate.specs.declared.source.SourceFault.{SourceFault}
use Rattle.ygenerate.specs.declared.source.SourceFault.TheVariants as sources
use Rattle.ygenerate.specs.Sources.{AreTablesOf, NoTables}
use Rattle.ytables.specs.Tables.{TablesValue}
use Rattle.ytokens.specs.declared.tokens.TokenFault.{TokenFault}
use Rattle.ytokens.specs.declared.tokens.TokenFault.TheVariants as tokens
use Rattle.ytokens.specs.Reading.{Gives}
use Rattle.yembed.specs.declared.refusal.Refusal.{Refusal}
use Rattle.yembed.specs.declared.refusal.Refusal.TheVariants.{Source, Tokens, NoRoom}

-- there are no tables of the grammar for this reason; or there are, and memory ran out after that
abbrev pub LacksTables : List ℕ → Refusal → Type 0
LacksTables grammar (Source fault) = NoTables grammar fault
LacksTables grammar (Tokens fault) = ⊥
LacksTables grammar NoRoom = (t : TablesValue) × AreTablesOf grammar t

-- the same, or there are tables of the grammar, and the tokens have this fault by them
abbrev pub Refuses : List ℕ → List ℕ → Refusal → Type 0
Refuses grammar text (Tokens fault) = (t : TablesValue) × AreTablesOf grammar t
    × Gives t.built.grammar text (Err fault)
Refuses grammar text refusal = LacksTables grammar refusal

-- the status where there are no tables: 1 for a fault of the grammar, 3 where memory ran out, 4 for
-- too many item sets
abbrev pub source_status : SourceFault → ℕ
source_status (sources.Grammar grammars.Memory) = 3
source_status (sources.Grammar fault) = 1
source_status (sources.Build building.TooManySets) = 4
source_status fault = 3

-- the status where the tokens have a fault: 2, and 3 where memory ran out
abbrev pub token_status : TokenFault → ℕ
token_status tokens.Memory = 3
token_status fault = 2

-- the status of a refusal
abbrev pub status_of : Refusal → ℕ
status_of (Source fault) = source_status fault
status_of (Tokens fault) = token_status fault
status_of NoRoom = 3

-- the status is that of a refusal for which there is this reason
abbrev pub IsRefused : (Refusal → Type 0) → ℕ → Type 0
IsRefused refuses status = (refusal : Refusal) × refuses refusal × (status ≡ status_of refusal)
