use Rattle.ysyntax.specs.Answers.{views}
use Rattle.ysyntax.specs.TreeTexts.{BodyPartStands}
use Rattle.ysyntax.specs.Tree.{body_part_yield}
use Rattle.ysyntax.specs.TreeViews.{body_part_view}
use Rattle.ysyntax.specs.SiteViews.{body_part_sites, named_in}
use Rattle.ysyntax.proofs.TreeSteps.{all_more, body_goes, one_more_lexeme, one_more_site}
use Rattle.ysyntax.proofs.tree_builder.TreeBuilder.body.Goals as goal

pub items-preserved : goal.items-preserved
items-preserved c =
    let taken = c.in-Some.ensures.taken in
    let more = c.in_ok-push.ensures.items in
    record {
      whole = one_more_lexeme body_part_yield body_part_view c.items.body.items
          c.push.new.self.items
          c.in-Some.item (views c.args.self.now) (views c.items.self) (views c.item.new.self)
          c.items.invariant.whole taken more;
      sites = one_more_site body_part_sites c.items.body.items c.push.new.self.items
          c.in-Some.item (named_in c.args.self.now) (named_in c.items.self)
          (named_in c.item.new.self) c.items.invariant.sites c.in-Some.ensures.sites more;
      goes_on = body_goes (body_part_view c.in-Some.item) (views c.items.self)
          (views c.item.new.self)
          c.items.invariant.goes_on taken;
      stands = λ source h.
          let s = c.items.invariant.stands source h in
          let t = c.in-Some.ensures.stands source s.1 in (
            all_more (BodyPartStands source) c.items.body.items c.push.new.self.items c.in-Some.item
                s.0 t.0 more,
            t.1,
          );
    }

pub returns-clause-stands : goal.returns-clause-stands
returns-clause-stands c = λ source h.
    let s = c.items.invariant.stands source h in
    (s.0, (c.in_default.ensures.stands source s.1).1)
