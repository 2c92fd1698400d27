-- Where the mistakes of a file stand.
use Rattle.std.specs.Prelude.{ℕ, List}
use Rattle.ydeclarations.specs.declared.mistake.Mistake.{Mistake}
use Rattle.ydeclarations.specs.Places.{StandsAt}
use Rattle.ysyntax.specs.Sites.{AreSites, Site}
use Rattle.ysyntax.specs.Tree.{Tree}

-- the place of a mistake in a file with this tree
abbrev pub IsPlace : List ℕ → Tree → Mistake → ℕ → Type 0
IsPlace source t m at = (ss : List Site) × AreSites source t ss × StandsAt t ss m at
