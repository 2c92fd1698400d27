use Rattle.std.proofs.Common.{◌≡◌, ◌++◌, map, length}
use Rattle.ysyntax.specs.declared.recogniser.State.TheVariants.{Typed}
use Rattle.ysyntax.specs.Answers.{views}
use Rattle.ysyntax.specs.TreeBuilder.{GoesOn}
use Rattle.ysyntax.specs.Sites.{typed}
use Rattle.ysyntax.specs.SiteViews.{name_site, named_in, site_marks}
use Rattle.ylexemes.specs.Lexemes.{name}
use Rattle.ysyntax.specs.TreeViews.{name_view}
use Rattle.ysyntax.proofs.tree_builder.TreeBuilder.names.Given as goal

abbrev pub invariant-names : goal.invariant-names
invariant-names l = record {
  whole : views l.fn.self ≡ map name (map name_view l.names.items) ++ views l.self;
  sites : named_in l.fn.self ≡ site_marks (map (name_site typed) l.names.items) ++ named_in l.self;
  goes_on : GoesOn Typed l.self;
}

abbrev pub decreases-names : goal.decreases-names
decreases-names l = length l.self
