-- The faults of a grammar file that has a syntax.
use Rattle.std.specs.Prelude.{ℕ, ◌≡◌, List}
use Rattle.ysyntax.specs.declared.fault.PlacedFault.{PlacedFault}
use Rattle.ysyntax.specs.Placing.{no_memory, placed_fault}
use Rattle.ydeclarations.specs.declared.mistake.Refused.{Refused}
use Rattle.ydeclarations.specs.declared.mistake.Refused.TheVariants as refused
use Rattle.ydeclarations.specs.OutlineSites.{IsPlaced}
use Rattle.ygrammar.specs.Elaborated.{IsFirstRefused}
use Rattle.ygrammar.specs.GrammarOf.{line_of, mistake_at}
use Rattle.ysyntax.specs.Sites.{Site}
use Rattle.ysyntax.specs.Tree.{Tree}

-- the fault of a refusal, at its place and on the line of that
abbrev pub IsRefusal : List ℕ → Refused → PlacedFault → Type 0
IsRefusal source (refused.Mistake what at) f =
    f ≡ placed_fault (mistake_at what (line_of source at)) at
IsRefusal source refused.Memory f = f ≡ no_memory

-- the fault of the first mistake of a tree with these sites, at its place; or memory ran out
abbrev pub IsFaultIn : List ℕ → Tree → List Site → PlacedFault → Type 0
IsFaultIn source t ss f = (e : Refused) × IsFirstRefused t e × IsPlaced t ss e
    × IsRefusal source e f
