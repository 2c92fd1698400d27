use Rattle.ysyntax.specs.Answers.{views}
use Rattle.std.proofs.Common.{inl, inr, sym, subst, ◌∙◌, ap, ◌++◌, map}
use Rattle.std.specs.List.{flat_map, AllByRecursion}
use Rattle.ysyntax.specs.Tree.{IsRuleText, rule_text_yield, left_yield, end_yield, body_part_yield}
use Rattle.ysyntax.specs.TreeTexts.{RuleTextStands}
use Rattle.ysyntax.specs.TreeViews.{rule_text_view}
use Rattle.ysyntax.proofs.TreeSteps.{all_more, rules_begin, rules_end, first_keeps, first_there}
use Rattle.ysyntax.specs.SiteViews.{named_in, rule_text_sites, site_marks}
use Rattle.ysyntax.proofs.TreeSteps.{one_more_piece, one_more_shaped, one_more_site, shorter}
use Rattle.ysyntax.proofs.tree_builder.TreeBuilder.rule_texts.Goals as goal

pub rules-init : goal.rules-init
rules-init c =
    let b = rules_begin (views c.args.self.now) c.requires in
    record {
      whole = ap (λ z. flat_map rule_text_yield (map rule_text_view z) ++ views c.args.self.now)
          (sym c.new-rule_texts.ensures.items);
      sites = ap (λ z. site_marks (flat_map rule_text_sites z) ++ named_in c.args.self.now)
          (sym c.new-rule_texts.ensures.items);
      shaped = subst (λ z. AllByRecursion IsRuleText (map rule_text_view z))
          (sym c.new-rule_texts.ensures.items) tt;
      first = inl (c.requires, c.new-rule_texts.ensures.items);
      ended = b.1;
      goes_on = b.0;
      stands = λ source h. (
        subst (λ z. AllByRecursion (RuleTextStands source) z)
            (sym c.new-rule_texts.ensures.items) tt,
        h,
      );
    }

pub rules-smaller : goal.rules-smaller
rules-smaller c =
    let e = c.in_ok-rule_text.ensures.whole in
    let v = rule_text_view c.in_ok-rule_text.rule_text in
    shorter c.rules.self c.rule_text.new.self (left_yield v.left)
    (map body_part_yield v.body ++ end_yield v.prec v.last v.semicolons)
    (c.in-Some.ensures.taken ∙ e)

pub rules-preserved : goal.rules-preserved
rules-preserved c =
    let e = c.in_ok-rule_text.ensures in
    let x = c.in_ok-rule_text.rule_text in
    record {
      whole = one_more_piece rule_text_yield rule_text_view c.rules.rule_texts.items
          c.push.new.self.items x
          (views c.args.self.now) (views c.rules.self) (views c.rule_text.new.self)
          c.rules.invariant.whole (c.in-Some.ensures.taken ∙ e.whole) c.in_ok-push.ensures.items;
      sites = one_more_site rule_text_sites c.rules.rule_texts.items c.push.new.self.items x
          (named_in c.args.self.now) (named_in c.rules.self) (named_in c.rule_text.new.self)
          c.rules.invariant.sites (c.in-Some.ensures.sites ∙ e.sites) c.in_ok-push.ensures.items;
      shaped = one_more_shaped IsRuleText rule_text_view c.rules.rule_texts.items
          c.push.new.self.items x
          c.rules.invariant.shaped e.shaped c.in_ok-push.ensures.items;
      first = inr (first_keeps c.rules.rule_texts.items c.push.new.self.items x c.in-Some.left
          (views c.rules.self) (views c.left.new.self) c.rules.invariant.first
          c.in-Some.ensures.taken e.left c.in_ok-push.ensures.items);
      ended = e.ended;
      goes_on = e.goes_on;
      stands = λ source h.
          let s = c.rules.invariant.stands source h in
          let t = e.stands source (c.in-Some.ensures.stands source s.1) in (
            all_more (RuleTextStands source) c.rules.rule_texts.items c.push.new.self.items x s.0
                t.0
                c.in_ok-push.ensures.items,
            t.1,
          );
    }

pub returns-clause-first : goal.returns-clause-first
returns-clause-first c = first_there c.rules.rule_texts.items (views c.rules.self)
    c.rules.invariant.first c.in_default.ensures.taken.0

pub returns-clause-ended : goal.returns-clause-ended
returns-clause-ended c =
    let (b, e) = rules_end (views c.rules.self) c.rules.invariant.goes_on c.rules.invariant.ended
    c.in_default.ensures.taken.0 in
    (b, sym c.in_default.ensures.taken.1 ∙ e)

pub returns-clause-stands : goal.returns-clause-stands
returns-clause-stands c = λ source h. (c.rules.invariant.stands source h).0
