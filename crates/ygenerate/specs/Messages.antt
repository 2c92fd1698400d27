-- The line that a program writes to standard error.
use Rattle.std.specs.Prelude.{ℕ, ◌++◌, ◌==◌, ◌&&◌, [], List, decimal, codes, Option, Some, None}
use Rattle.std.specs.Prelude.{if◌then◌else◌}
use Rattle.ysyntax.specs.declared.fault.GrammarFault.{GrammarFault}
use Rattle.ysyntax.specs.declared.fault.GrammarFault.TheVariants as grammars
use Rattle.ygrammar.specs.GrammarOf.{line_in}
use Rattle.ytables.specs.declared.tables.Counts.{Counts}
use Rattle.ygenerate.specs.declared.message.Program.{Program}
use Rattle.ygenerate.specs.declared.message.Program.TheVariants.{Yacc, Ystep}
use Rattle.ygenerate.specs.declared.message.Trouble.{Trouble}
use Rattle.ygenerate.specs.declared.message.Trouble.TheVariants.{Usage, Grammar, TooManySets}
use Rattle.ygenerate.specs.declared.message.Trouble.TheVariants.{NoMemory, CannotRead, CannotWrite}

-- the name that messages begin with
abbrev pub name_of : Program → List ℕ
name_of Yacc = codes "yacc"
name_of Ystep = codes "ystep"

-- the message where the words are refused
abbrev pub usage_of : Program → List ℕ
usage_of Yacc = codes "usage: yacc [-v] [-b prefix] grammar\n"
usage_of Ystep = codes "usage: ystep grammar tokens\n"

-- the code of a fault of a grammar file
abbrev pub grammar_code : GrammarFault → List ℕ
grammar_code grammars.TooLong = codes "G1"
grammar_code (grammars.Unfinished line) = codes "G2"
grammar_code (grammars.BadLiteral line) = codes "G3"
grammar_code (grammars.Foreign line) = codes "G4"
grammar_code (grammars.Syntax line) = codes "G5"
grammar_code (grammars.TokenLeft line) = codes "G6"
grammar_code (grammars.Undefined line) = codes "G7"
grammar_code (grammars.TwicePrecedence line) = codes "G8"
grammar_code (grammars.BadNumber line) = codes "G9"
grammar_code (grammars.BadStart line) = codes "G10"
grammar_code (grammars.Unproductive line) = codes "G11"
grammar_code (grammars.BadPrec line) = codes "G12"
grammar_code (grammars.Limit line) = codes "G13"
grammar_code grammars.Memory = codes "no memory"

-- the program, what it says, and where
abbrev pub message_line : Program → List ℕ → List ℕ → Option ℕ → List ℕ
message_line p what where_ None = name_of p ++ (codes ": " ++ (what ++ codes "\n"))
message_line p what where_ (Some n) =
    name_of p ++ (codes ": " ++ (what ++ (where_ ++ (decimal n ++ codes "\n"))))

-- the line that says why a program ends
abbrev pub message : Program → Trouble → List ℕ
message p Usage = usage_of p
message p (Grammar fault) = message_line p (grammar_code fault) (codes " at line ")
    (line_in fault)
message p TooManySets = message_line p (codes "B1") [] None
message p NoMemory = message_line p (codes "no memory") [] None
message p (CannotRead path) = name_of p ++ (codes ": cannot read " ++ (path.now ++ codes "\n"))
message p (CannotWrite prefix ending) =
    name_of p ++ (codes ": cannot write " ++ (prefix.now ++ (ending.now ++ codes "\n")))

-- the line on conflicts, where there is one
abbrev pub conflicts_line : Counts → List ℕ
conflicts_line c =
    if c.shift_reduce == 0 && c.reduce_reduce == 0 then []
    else codes "conflicts: " ++ (decimal c.shift_reduce
    ++ (codes " shift/reduce, " ++ (decimal c.reduce_reduce ++ codes " reduce/reduce\n")))
