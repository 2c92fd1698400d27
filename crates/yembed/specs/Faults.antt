-- The first fault of a grammar and tokens: its number, and where it stands.
use Rattle.std.specs.Prelude.{ℕ, ◌≡◌, ◌↔◌, ◌<◌, List, length, Result, Ok, Err, IfOk, IfErr, IsErrOf}
use Rattle.std.specs.Prelude.{unwrap_or}
use Rattle.ysymbols.specs.Grammar.{GrammarValue, longest_file}
use Rattle.ysyntax.specs.declared.fault.GrammarFault.{GrammarFault}
use Rattle.ysyntax.specs.declared.fault.GrammarFault.TheVariants as grammars
use Rattle.ysyntax.specs.declared.fault.PlacedFault.{PlacedFault}
use Rattle.ysyntax.specs.Lexer.{Refusal}
use Rattle.ysyntax.specs.Placing.{too_long}
use Rattle.ydeclarations.specs.declared.mistake.Mistake.{Mistake}
use Rattle.ygrammar.specs.GrammarOf.{AnswersGrammar, AnswersMistake, AnswersRefusal, HasLine}
use Rattle.ygrammar.specs.GrammarOf.{IsFaultAt, IsGrammarOf, IsMistaken, IsRefused, line_in}
use Rattle.ygrammar.specs.GrammarOf.{unplaced}
use Rattle.ylalr.specs.Collection.{IsFault}
use Rattle.ylalr.specs.declared.fault.BuildFault.{BuildFault}
use Rattle.ylalr.specs.declared.fault.BuildFault.TheVariants as building
use Rattle.ygenerate.specs.Sources.{AreTablesOf}
use Rattle.ytables.specs.Tables.{TablesValue}
use Rattle.ytokens.specs.declared.tokens.TokenFault.{TokenFault}
use Rattle.ytokens.specs.declared.tokens.TokenFault.TheVariants as tokens
use Rattle.ytokens.specs.Reading.{Gives, TokensOf}
use Rattle.yembed.specs.Refusals.{token_status}
use Rattle.yembed.specs.declared.faults.Fault.{Fault}
use Rattle.yembed.specs.declared.faults.Finding.{Finding}
use Rattle.yembed.specs.declared.faults.Finding.TheVariants.{Grammar, Build, NoRoom, Tokens}

-- What is read of these bytes: the grammar that they mean; or no syntax, for the first reason; or the
-- first mistake in what they mean, at its place; or no memory.
pub record IsRead (source : List ℕ) (answer : Result GrammarValue PlacedFault) : Type 0 where
  pub long : IsErrOf answer too_long ↔ (longest_file < length source)
  pub found : IfOk answer (λ g. IsGrammarOf source g)
  pub only : (g : GrammarValue) → IsGrammarOf source g → AnswersGrammar (unplaced answer) g
  pub refused : (r : Refusal) → IsRefused source r → AnswersRefusal (unplaced answer) r
  pub mistaken : (m : Mistake) → IsMistaken source m → AnswersMistake source (unplaced answer) m
  pub fault : IfErr answer (λ e. IsFaultAt source e.at e.fault)
  pub line : IfErr answer (λ e. HasLine source e)

-- these are tables of the grammar that is read
pub record IsTabled (source : List ℕ) (t : TablesValue) : Type 0 where
  pub read : IsRead source (Ok t.built.grammar)
  pub are : AreTablesOf source t

-- why there are no tables: a fault of the grammar; or too many item sets, or no memory
abbrev pub LacksTables : List ℕ → Finding → Type 0
LacksTables source (Grammar placed) = IsRead source (Err placed)
LacksTables source (Build fault) = (v : GrammarValue) × IsRead source (Ok v) × IsFault v.bare fault
LacksTables source NoRoom = (v : GrammarValue) × IsRead source (Ok v)
LacksTables source (Tokens fault) = ⊥

-- what is found: why there are no tables, or a fault of the tokens by tables
abbrev pub Finds : List ℕ → List ℕ → Finding → Type 0
Finds source text (Tokens fault) =
    (t : TablesValue) × IsTabled source t × Gives t.built.grammar text (Err fault)
Finds source text finding = LacksTables source finding

-- there is no fault: the text means these tokens by tables of the grammar
pub record IsFaultless (source text symbols : List ℕ) : Type 0 where
  pub tables : TablesValue
  pub tabled : IsTabled source tables
  pub names : TokensOf tables.built.grammar text (Ok symbols)

-- the status of a fault of a grammar
abbrev pub grammar_status : GrammarFault → ℕ
grammar_status grammars.Memory = 3
grammar_status fault = 1

-- the status where there are no tables of a grammar
abbrev pub build_status : BuildFault → ℕ
build_status building.TooManySets = 4
build_status building.Memory = 3

-- the status of what was found
abbrev pub finding_status : Finding → ℕ
finding_status (Grammar placed) = grammar_status placed.fault
finding_status (Build fault) = build_status fault
finding_status NoRoom = 3
finding_status (Tokens fault) = token_status fault

-- the number of a fault of a grammar: 1 for G1, and so on
abbrev pub grammar_code : GrammarFault → ℕ
grammar_code grammars.TooLong = 1
grammar_code (grammars.Unfinished line) = 2
grammar_code (grammars.BadLiteral line) = 3
grammar_code (grammars.Foreign line) = 4
grammar_code (grammars.Syntax line) = 5
grammar_code (grammars.TokenLeft line) = 6
grammar_code (grammars.Undefined line) = 7
grammar_code (grammars.TwicePrecedence line) = 8
grammar_code (grammars.BadNumber line) = 9
grammar_code (grammars.BadStart line) = 10
grammar_code (grammars.Unproductive line) = 11
grammar_code (grammars.BadPrec line) = 12
grammar_code (grammars.Limit line) = 13
grammar_code grammars.Memory = 0

-- the number of a fault of tokens: 1 for K1, and so on
abbrev pub token_code : TokenFault → ℕ
token_code (tokens.Unknown place) = 1
token_code (tokens.NotInput place) = 2
token_code tokens.TooMany = 3
token_code tokens.Memory = 0
token_code (tokens.BadLiteral place) = 5

-- which token is at fault, counted from 1; 0 where the fault has no place
abbrev pub token_place : TokenFault → ℕ
token_place (tokens.Unknown place) = place
token_place (tokens.NotInput place) = place
token_place tokens.TooMany = 0
token_place tokens.Memory = 0
token_place (tokens.BadLiteral place) = place

-- what C gets where there is no fault
abbrev pub no_fault : Fault
no_fault = record { code = 0; line = 0; offset = 0; place = 0 }

-- what C gets of a fault
abbrev pub fault_of : Finding → Fault
fault_of (Grammar placed) = record {
  code = grammar_code placed.fault;
  line = unwrap_or (line_in placed.fault) 0;
  offset = placed.at;
  place = 0;
}
fault_of (Tokens fault) = record {
  code = token_code fault;
  line = 0;
  offset = 0;
  place = token_place fault;
}
fault_of _ = no_fault

-- the status and the fault are those of a fault that is found
pub record Shows (source text : List ℕ) (status : ℕ) (fault : Fault) : Type 0 where
  pub finding : Finding
  pub finds : Finds source text finding
  pub says : status ≡ finding_status finding
  pub told : fault ≡ fault_of finding

-- there is no fault, and C gets that
abbrev pub ShowsNone : List ℕ → List ℕ → Fault → Type 0
ShowsNone source text fault =
    ((symbols : List ℕ) × IsFaultless source text symbols) × (fault ≡ no_fault)
