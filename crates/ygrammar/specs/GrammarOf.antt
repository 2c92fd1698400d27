-- The grammar of a file, or its fault (POSIX yacc, "Input Files" and "Extended Description").
use Rattle.std.specs.Prelude.{ℕ, ◌≡◌, ◌+◌, ◌<◌, ◌≤◌, ◌⊎◌, List, length, take, Option, Some, None}
use Rattle.std.specs.Prelude.{Result, Ok, Err, IfSome}
use Rattle.ysyntax.specs.declared.fault.GrammarFault.{GrammarFault}
use Rattle.ysyntax.specs.declared.fault.GrammarFault.TheVariants as faults
use Rattle.ysyntax.specs.declared.fault.PlacedFault.{PlacedFault}
use Rattle.ydeclarations.specs.declared.mistake.Mistake.{Mistake}
use Rattle.ydeclarations.specs.declared.mistake.Mistake.TheVariants.{TokenLeft, Undefined}
use Rattle.ydeclarations.specs.declared.mistake.Mistake.TheVariants.{TwicePrecedence, BadNumber}
use Rattle.ydeclarations.specs.declared.mistake.Mistake.TheVariants.{BadStart, Unproductive}
use Rattle.ydeclarations.specs.declared.mistake.Mistake.TheVariants.{BadPrec}
use Rattle.ydeclarations.specs.declared.mistake.Mistake.TheVariants.{Limit}
use Rattle.ysyntax.specs.Lexer.{Refusal, Outcome, SpellsSyntax, StopsAt, newlines, refusal}
use Rattle.ylexemes.specs.Front.{Fault, unfinished}
use Rattle.ylexemes.specs.Front.{bad_literal, foreign, syntax}
use Rattle.ysymbols.specs.Grammar.{GrammarValue, longest_file}
use Rattle.ygrammar.specs.Meaning.{IsMeaning}
use Rattle.ygrammar.specs.Places.{IsPlace}
use Rattle.ydeclarations.specs.Mistakes.{IsFirst, order}
use Rattle.ysyntax.specs.Tree.{IsTree, Tree, yield}

-- the file is not too long, and spells the syntax of this tree
pub record HasTree (source : List ℕ) (t : Tree) : Type 0 where
  pub short : length source ≤ longest_file
  pub spelled : SpellsSyntax source (yield t)
  pub shaped : IsTree t

-- the grammar of the file is this
abbrev pub IsGrammarOf : List ℕ → GrammarValue → Type 0
IsGrammarOf source g = (t : Tree) × HasTree source t × IsMeaning t g

-- the line of the place with so many bytes before it: one more than the newlines among them
abbrev pub line_of : List ℕ → ℕ → ℕ
line_of source at = newlines (take at source) + 1

-- the file has a syntax, and this is the first mistake in what it means
abbrev pub IsMistaken : List ℕ → Mistake → Type 0
IsMistaken source m = (t : Tree) × HasTree source t × IsFirst t order m

-- the same, and where the mistake stands
abbrev pub IsMistakenAt : List ℕ → Mistake → ℕ → Type 0
IsMistakenAt source m at = (t : Tree) × HasTree source t × IsFirst t order m
    × IsPlace source t m at

-- the same, and the line on which the mistake stands
abbrev pub IsMistakenOn : List ℕ → Mistake → ℕ → Type 0
IsMistakenOn source m line = (t : Tree) × HasTree source t × IsFirst t order m
    × ((at : ℕ) × IsPlace source t m at × (line ≡ line_of source at))

-- the file is not too long, and has no syntax for this reason
abbrev pub IsRefused : List ℕ → Refusal → Type 0
IsRefused source r = (length source ≤ longest_file) × Outcome source (Err r)

-- the same, and reading stops at this place
abbrev pub IsRefusedAt : List ℕ → Refusal → ℕ → Type 0
IsRefusedAt source r at = (length source ≤ longest_file) × StopsAt source at (Err r)

-- the fault is one that the file has, or memory ran out
abbrev pub IsFaultOf : List ℕ → GrammarFault → Type 0
IsFaultOf source faults.TooLong = longest_file < length source
IsFaultOf source (faults.Unfinished line) = IsRefused source (refusal unfinished line)
IsFaultOf source (faults.BadLiteral line) = IsRefused source (refusal bad_literal line)
IsFaultOf source (faults.Foreign line) = IsRefused source (refusal foreign line)
IsFaultOf source (faults.Syntax line) = IsRefused source (refusal syntax line)
IsFaultOf source (faults.TokenLeft line) = IsMistakenOn source TokenLeft line
IsFaultOf source (faults.Undefined line) = IsMistakenOn source Undefined line
IsFaultOf source (faults.TwicePrecedence line) = IsMistakenOn source TwicePrecedence line
IsFaultOf source (faults.BadNumber line) = IsMistakenOn source BadNumber line
IsFaultOf source (faults.BadStart line) = IsMistakenOn source BadStart line
IsFaultOf source (faults.Unproductive line) = IsMistakenOn source Unproductive line
IsFaultOf source (faults.BadPrec line) = IsMistakenOn source BadPrec line
IsFaultOf source (faults.Limit line) = IsMistakenOn source Limit line
IsFaultOf source faults.Memory = Unit {0}

-- the file is too long, or has no syntax for this reason and reading stops at this place, or memory
-- ran out
abbrev pub IsTextFault : List ℕ → ℕ → GrammarFault → Type 0
IsTextFault source at faults.TooLong = longest_file < length source
IsTextFault source at (faults.Unfinished line) = IsRefusedAt source (refusal unfinished line) at
IsTextFault source at (faults.BadLiteral line) = IsRefusedAt source (refusal bad_literal line) at
IsTextFault source at (faults.Foreign line) = IsRefusedAt source (refusal foreign line) at
IsTextFault source at (faults.Syntax line) = IsRefusedAt source (refusal syntax line) at
IsTextFault source at faults.Memory = at ≡ 0
IsTextFault source at _ = ⊥

-- the file has a syntax and this first mistake, which stands at this place, or memory ran out
abbrev pub IsMistakeAt : List ℕ → ℕ → GrammarFault → Type 0
IsMistakeAt source at (faults.TokenLeft line) = IsMistakenAt source TokenLeft at
IsMistakeAt source at (faults.Undefined line) = IsMistakenAt source Undefined at
IsMistakeAt source at (faults.TwicePrecedence line) = IsMistakenAt source TwicePrecedence at
IsMistakeAt source at (faults.BadNumber line) = IsMistakenAt source BadNumber at
IsMistakeAt source at (faults.BadStart line) = IsMistakenAt source BadStart at
IsMistakeAt source at (faults.Unproductive line) = IsMistakenAt source Unproductive at
IsMistakeAt source at (faults.BadPrec line) = IsMistakenAt source BadPrec at
IsMistakeAt source at (faults.Limit line) = IsMistakenAt source Limit at
IsMistakeAt source at faults.Memory = at ≡ 0
IsMistakeAt source at _ = ⊥

-- the fault is one that the file has at this place, or memory ran out
abbrev pub IsFaultAt : List ℕ → ℕ → GrammarFault → Type 0
IsFaultAt source at f = IsTextFault source at f ⊎ IsMistakeAt source at f

-- the line that a fault names, where it names one
abbrev pub line_in : GrammarFault → Option ℕ
line_in faults.TooLong = None
line_in (faults.Unfinished line) = Some line
line_in (faults.BadLiteral line) = Some line
line_in (faults.Foreign line) = Some line
line_in (faults.Syntax line) = Some line
line_in (faults.TokenLeft line) = Some line
line_in (faults.Undefined line) = Some line
line_in (faults.TwicePrecedence line) = Some line
line_in (faults.BadNumber line) = Some line
line_in (faults.BadStart line) = Some line
line_in (faults.Unproductive line) = Some line
line_in (faults.BadPrec line) = Some line
line_in (faults.Limit line) = Some line
line_in faults.Memory = None

-- the line that the fault names is that of its place
abbrev pub HasLine : List ℕ → PlacedFault → Type 0
HasLine source e = IfSome (line_in e.fault) (λ line. line ≡ line_of source e.at)

-- an answer without the place of its fault
abbrev pub unplaced : {X : Type 0} → Result X PlacedFault → Result X GrammarFault
unplaced (Ok g) = Ok g
unplaced (Err e) = Err e.fault

-- the grammar of the file, or a fault of it, or no memory
abbrev pub GivesGrammar : List ℕ → Result GrammarValue GrammarFault → Type 0
GivesGrammar source (Ok g) = IsGrammarOf source g
GivesGrammar source (Err f) = IsFaultOf source f

-- the answer is this grammar, or no memory
abbrev pub AnswersGrammar : Result GrammarValue GrammarFault → GrammarValue → Type 0
AnswersGrammar (Ok h) g = h ≡ g
AnswersGrammar (Err faults.Memory) g = Unit {0}
AnswersGrammar (Err _) g = ⊥

-- a mistake as a fault, on a line
abbrev pub mistake_at : Mistake → ℕ → GrammarFault
mistake_at TokenLeft line = faults.TokenLeft line
mistake_at Undefined line = faults.Undefined line
mistake_at TwicePrecedence line = faults.TwicePrecedence line
mistake_at BadNumber line = faults.BadNumber line
mistake_at BadStart line = faults.BadStart line
mistake_at Unproductive line = faults.Unproductive line
mistake_at BadPrec line = faults.BadPrec line
mistake_at Limit line = faults.Limit line

-- the answer is this mistake, on its line, or no memory
abbrev pub AnswersMistake : List ℕ → Result GrammarValue GrammarFault → Mistake → Type 0
AnswersMistake source (Ok g) m = ⊥
AnswersMistake source (Err faults.Memory) m = Unit {0}
AnswersMistake source (Err f) m = (at : ℕ) × IsMistakenAt source m at
    × (f ≡ mistake_at m (line_of source at))

-- a fault of the syntax, on a line
abbrev pub refusal_at : Fault → ℕ → GrammarFault
refusal_at unfinished line = faults.Unfinished line
refusal_at bad_literal line = faults.BadLiteral line
refusal_at foreign line = faults.Foreign line
refusal_at syntax line = faults.Syntax line

-- the answer is this refusal with its line, or no memory
abbrev pub AnswersRefusal : {X : Type 0} → Result X GrammarFault → Refusal → Type 0
AnswersRefusal (Ok g) r = ⊥
AnswersRefusal (Err faults.Memory) r = Unit {0}
AnswersRefusal (Err f) r = f ≡ refusal_at r.fault r.line
