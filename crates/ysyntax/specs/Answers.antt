-- What reading a file's lexemes gives.
use Rattle.std.specs.Prelude.{◌≡◌, ℕ, List, [], drop, map, Result, Ok, Err, Option, Some, None}
use Rattle.std.specs.List.{AllByRecursion}
use Rattle.std.specs.Global.{Vec}
use Rattle.ysyntax.specs.declared.recogniser.State.{State}
use Rattle.ysyntax.specs.declared.recogniser.State.TheVariants.{Declarations}
use Rattle.ysyntax.specs.Recogniser.{state_after}
use Rattle.ysyntax.specs.declared.lexer.Placed.{Placed}
use Rattle.ylexemes.specs.declared.part.LexicalFault.{LexicalFault}
use Rattle.ylexemes.specs.declared.part.LexicalFault.TheVariants as lexical
use Rattle.ysyntax.specs.declared.fault.GrammarFault.{GrammarFault}
use Rattle.ysyntax.specs.declared.fault.GrammarFault.TheVariants as faults
use Rattle.ysyntax.specs.declared.fault.PlacedFault.{PlacedFault}
use Rattle.ylexemes.specs.Lexemes.{Lexeme}
use Rattle.ysyntax.specs.Lexer.{kinds, ComesTo}
use Rattle.ysyntax.specs.Sites.{StandFrom}
use Rattle.ysyntax.specs.SiteViews.{marks_in}
use Rattle.ylexemes.specs.Front.{lexeme, PartAt, unfinished, bad_literal}
use Rattle.ysyntax.specs.Lexer.{refusal, Refusal, Outcome, StopsAt}
use Rattle.ylexemes.specs.Front.{foreign, syntax}
use Rattle.ylexemes.specs.Views.{lexeme_view}

-- why reading stops, as a fault on a line: no part begins there, or the syntax has no such lexeme
abbrev pub fault_at : Option LexicalFault → ℕ → GrammarFault
fault_at (Some lexical.Unfinished) line = faults.Unfinished line
fault_at (Some lexical.BadLiteral) line = faults.BadLiteral line
fault_at (Some lexical.Foreign) line = faults.Foreign line
fault_at None line = faults.Syntax line

-- the lexemes, without their places
abbrev pub views : List Placed → List Lexeme
views ls = map (λ p. lexeme_view p.lexeme) ls

-- the fault is this outcome, or no memory
abbrev pub IsOutcome : GrammarFault → Result (List Lexeme) Refusal → Type 0
IsOutcome (faults.Unfinished line) o = o ≡ Err (refusal unfinished line)
IsOutcome (faults.BadLiteral line) o = o ≡ Err (refusal bad_literal line)
IsOutcome (faults.Foreign line) o = o ≡ Err (refusal foreign line)
IsOutcome (faults.Syntax line) o = o ≡ Err (refusal syntax line)
IsOutcome faults.Memory o = Unit {0}
IsOutcome _ o = ⊥

-- the answer is this outcome, or no memory
abbrev pub Answers : Result (Vec Placed) PlacedFault → Result (List Lexeme) Refusal → Type 0
Answers (Ok v) o = o ≡ Ok (views v.items)
Answers (Err e) o = IsOutcome e.fault o

-- the fault is one of the syntax of the file, at the place where reading stops, or no memory
abbrev pub FailsAt : List ℕ → ℕ → GrammarFault → Type 0
FailsAt bytes at (faults.Unfinished line) = StopsAt bytes at (Err (refusal unfinished line))
FailsAt bytes at (faults.BadLiteral line) = StopsAt bytes at (Err (refusal bad_literal line))
FailsAt bytes at (faults.Foreign line) = StopsAt bytes at (Err (refusal foreign line))
FailsAt bytes at (faults.Syntax line) = StopsAt bytes at (Err (refusal syntax line))
FailsAt bytes at faults.Memory = at ≡ 0
FailsAt bytes at _ = ⊥

-- reading has come to this place, in this state of the syntax
abbrev pub ComesIn : List ℕ → ℕ → State → Type 0
ComesIn bytes at q = (ls : List Lexeme) × ComesTo bytes ls (drop at bytes)
    × (state_after (Some Declarations) (kinds ls) ≡ Some q)

-- the state of the syntax in which reading stops with the fault, where a text is at fault
abbrev pub StopsIn : List ℕ → ℕ → GrammarFault → Option State → Type 0
StopsIn bytes at faults.TooLong state = state ≡ None
StopsIn bytes at faults.Memory state = state ≡ None
StopsIn bytes at fault None = ⊥
StopsIn bytes at fault (Some q) = ComesIn bytes at q

-- the outcome of the file, or no memory
abbrev pub Gives : List ℕ → Result (Vec Placed) PlacedFault → Type 0
Gives bytes (Ok v) = Outcome bytes (Ok (views v.items))
Gives bytes (Err e) = FailsAt bytes e.at e.fault

-- the part at the place of a lexeme is that lexeme, and it ends where the lexeme does
abbrev pub StandsIn : List ℕ → Placed → Type 0
StandsIn source p =
    PartAt (drop p.at source) (lexeme (lexeme_view p.lexeme)) (drop p.end source)

-- each lexeme stands in the file
abbrev pub StandIn : List ℕ → List Placed → Type 0
StandIn source ls = AllByRecursion (StandsIn source) ls

-- reading has come to the rest, in this state
pub record Comes (bytes : List ℕ) (ls : List Placed) (rest : List ℕ) (state : State) : Type 0 where
  pub cut : ComesTo bytes (views ls) rest
  pub state_is : state_after (Some Declarations) (kinds (views ls)) ≡ Some state
  pub placed : StandIn bytes ls
  pub sites : StandFrom bytes [] (marks_in ls)
