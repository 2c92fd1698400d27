-- What was read so far, and what is left.
use Rattle.std.proofs.Common.{ℕ, ◌≡◌, ◌++◌, List}
use Rattle.std.specs.List.{AllByRecursion, flat_map}
use Rattle.ysyntax.specs.declared.lexer.Placed.{Placed}
use Rattle.ysyntax.specs.Answers.{StandIn}
use Rattle.ysyntax.specs.Sites.{Site}
use Rattle.ysyntax.specs.SiteViews.{named_in, site_marks}

-- the sites are those of what was read, and of what is left
abbrev pub SitesSoFar : {X : Type 0} → (X → List Site) → List X → List Placed → List Placed → Type 0
SitesSoFar sites items from left =
    named_in from ≡ site_marks (flat_map sites items) ++ named_in left

-- what was read stands in the source, and so does what is left
abbrev pub StandSoFar : {X : Type 0} → (List ℕ → X → Type 0) → List X → List Placed → List Placed →
    Type 0
StandSoFar Stands items from left = (source : List ℕ) → StandIn source from →
    AllByRecursion (Stands source) items × StandIn source left
