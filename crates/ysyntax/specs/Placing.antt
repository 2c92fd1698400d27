-- Faults with their places.
use Rattle.std.specs.Prelude.{ℕ, None}
use Rattle.ysyntax.specs.declared.fault.GrammarFault.{GrammarFault}
use Rattle.ysyntax.specs.declared.fault.GrammarFault.TheVariants.{Memory, TooLong}
use Rattle.ysyntax.specs.declared.fault.PlacedFault.{PlacedFault}

-- a fault at a place
abbrev pub placed_fault : GrammarFault → ℕ → PlacedFault
placed_fault fault at = record { fault = fault; at = at; state = None }

-- memory ran out, which has no place
abbrev pub no_memory : PlacedFault
no_memory = placed_fault Memory 0

-- a file that is too long, of which no place is at fault
abbrev pub too_long : PlacedFault
too_long = placed_fault TooLong 0
