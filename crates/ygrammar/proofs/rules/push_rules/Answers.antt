use Rattle.std.proofs.Common.{[], ◌≡◌, ◌<◌, ◌∙◌, subst, ap, drop, map, ◌++◌, ◌∷◌, ◌+◌, List, ℕ}
use Rattle.std.proofs.Common.{length, arith}
use Rattle.ysyntax.specs.declared.tree.RuleText.{RuleText}
use Rattle.ydeclarations.specs.Elaboration.{precedence_at, rules_from}
use Rattle.ygrammar.specs.Numbered.{chosen_token, rule_numbers}
use Rattle.ysymbols.specs.Grammar.{RuleValue}
use Rattle.ysyntax.specs.TreeViews.{rule_text_view, occurrence_view}
use Rattle.ysymbols.specs.Sources.{option_view}
use Rattle.ygrammar.proofs.InnerSteps.{rule_text_counts, rule_text_read, rule_text_room}
use Rattle.ygrammar.proofs.RuleSteps.{rule_step}
use Rattle.ygrammar.proofs.rules.push_rules.Goals as goal

pub loop-rule_text-preserved : goal.loop-rule_text-preserved
loop-rule_text-preserved c =
    let i = c.loop-rule_text.rule_text-index in
    let cs : List RuleText = c.args.rule_texts.now in
    let x : RuleText = c.rule_text-item.result in
    let ns : List (List ℕ) = c.args.names.now in
    let given = c.args.given.now in
    let h : i < length cs = omega arith in
    let whole : List RuleValue = c.args.rules.now.items ++ map (rule_numbers ns given)
    (rules_from [] 1 (map rule_text_view cs)) in
    record {
      rules = rule_step ns given _ _ (rule_text_view x) (map rule_text_view (drop (i + 1) cs)) _ _ _
          _ _ _
          _ _ _ whole
          c.final_parts.ensures.items
          c.in_ok-body.ensures.rules
          c.in_ok-body.ensures.symbols
          c.in_ok-body.ensures.next
          (c.rule_precedence-precedence.ensures ∙ ap (λ (ss : List ℕ). precedence_at given
          (chosen_token ns (length given) (option_view occurrence_view x.prec) ss))
          c.deref.ensures.value)
          c.left_name-before.ensures
          c.number_in-left.ensures
          (c.in_ok-push.ensures.items ∙ ap (λ (r : RuleValue). c.number_body.new.rules.items ++ r ∷
          []) c.of.ensures)
          (subst (λ (ys : List RuleText). c.loop-rule_text.rules.items ++ map (rule_numbers ns
          given)
          (rules_from c.loop-rule_text.before.now c.loop-rule_text.next (map rule_text_view ys)) ≡
          whole)
          (rule_text_read cs i x c.rule_text-item.is h) c.loop-rule_text.invariant.rules);
      counted = rule_text_counts cs i _ _ _ x _ c.rule_text-item.is h c.final_parts.ensures.items
          c.in_ok-body.ensures.next c.loop-rule_text.invariant.counted;
    }

pub number_body-requires : goal.number_body-requires
number_body-requires c = rule_text_room c.args.rule_texts.now
    c.loop-rule_text.rule_text-index _ _ _ _ _ c.rule_text-item.is (omega arith)
    c.final_parts.ensures.items c.loop-rule_text.invariant.counted c.requires
