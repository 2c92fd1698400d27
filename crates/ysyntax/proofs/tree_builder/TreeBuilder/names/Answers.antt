use Rattle.ysyntax.specs.Answers.{views}
use Rattle.std.proofs.Common.{sym, subst, ap, ◌++◌, map}
use Rattle.ysyntax.specs.declared.recogniser.State.TheVariants.{Declarations}
use Rattle.ylexemes.specs.Lexemes.{name}
use Rattle.ysyntax.specs.TreeViews.{name_view}
use Rattle.ysyntax.specs.Sites.{typed}
use Rattle.ysyntax.specs.SiteViews.{name_site, named_in, site_marks}
use Rattle.ysyntax.proofs.TreeSteps.{Goes, tagged_typed, names_some, names_end}
use Rattle.ysyntax.proofs.tree_builder.TreeBuilder.names.Goals as goal

pub names-init : goal.names-init
names-init c = record {
  whole = ap (λ z. map name (map name_view z) ++ views c.args.self.now)
      (sym c.new-names.ensures.items);
  sites = ap (λ z. site_marks (map (name_site typed) z) ++ named_in c.args.self.now)
      (sym c.new-names.ensures.items);
  goes_on = tagged_typed (views c.args.self.now) c.requires;
}

pub returns-clause-some : goal.returns-clause-some
returns-clause-some c = names_some c.names.names.items (views c.args.self.now) (views c.names.self)
    c.names.invariant.whole c.requires c.in_default.ensures.taken.0

pub returns-clause-goes_on : goal.returns-clause-goes_on
returns-clause-goes_on c = subst (Goes Declarations) c.in_default.ensures.taken.1
    (names_end (views c.names.self) c.names.invariant.goes_on c.in_default.ensures.taken.0)
