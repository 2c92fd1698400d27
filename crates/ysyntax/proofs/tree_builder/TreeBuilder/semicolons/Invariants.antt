use Rattle.std.proofs.Common.{◌≡◌, length, ℕ, List}
use Rattle.ysyntax.specs.declared.recogniser.State.TheVariants.{Semicolons}
use Rattle.ysyntax.specs.Answers.{StandIn}
use Rattle.ysyntax.specs.TreeBuilder.{GoesOn}
use Rattle.ysyntax.specs.SiteViews.{named_in}
use Rattle.ysyntax.proofs.TreeSteps.{Counted}
use Rattle.ysyntax.proofs.tree_builder.TreeBuilder.semicolons.Given as goal

abbrev pub invariant-semicolons : goal.invariant-semicolons
invariant-semicolons l = record {
  counted : Counted l.fn.self l.self;
  sites : named_in l.fn.self ≡ named_in l.self;
  goes_on : GoesOn Semicolons l.self;
  stands : (source : List ℕ) → StandIn source l.fn.self → StandIn source l.self;
}

abbrev pub decreases-semicolons : goal.decreases-semicolons
decreases-semicolons l = length l.self
