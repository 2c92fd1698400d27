use Rattle.ysyntax.specs.Answers.{views}
use Rattle.std.proofs.Common.{sym, subst, ap, ◌++◌, map}
use Rattle.std.specs.List.{flat_map}
use Rattle.ysyntax.specs.declared.recogniser.State.TheVariants.{Declarations}
use Rattle.ysyntax.specs.Tree.{entry_yield}
use Rattle.ysyntax.specs.TreeViews.{entry_view}
use Rattle.ysyntax.specs.SiteViews.{entry_sites, named_in, site_marks}
use Rattle.ysyntax.proofs.TreeSteps.{Goes, tagged_numbered, entries_some, entries_end}
use Rattle.ysyntax.proofs.tree_builder.TreeBuilder.entries.Goals as goal

pub entries-init : goal.entries-init
entries-init c = record {
  whole = ap (λ z. flat_map entry_yield (map entry_view z) ++ views c.args.self.now)
      (sym c.new-entries.ensures.items);
  sites = ap (λ z. site_marks (flat_map entry_sites z) ++ named_in c.args.self.now)
      (sym c.new-entries.ensures.items);
  goes_on = tagged_numbered (views c.args.self.now) c.requires;
}

pub returns-clause-some : goal.returns-clause-some
returns-clause-some c = entries_some c.entries.entries.items (views c.args.self.now)
    (views c.entries.self) c.entries.invariant.whole c.requires c.in_default.ensures.taken.0

pub returns-clause-goes_on : goal.returns-clause-goes_on
returns-clause-goes_on c = subst (Goes Declarations) c.in_default.ensures.taken.1
    (entries_end (views c.entries.self) c.entries.invariant.goes_on c.in_default.ensures.taken.0)
