use Rattle.std.proofs.Common.{◌≡◌, ◌++◌, [], map, drop}
use Rattle.ydeclarations.specs.Elaboration.{rules_from}
use Rattle.ygrammar.specs.Numbered.{inner_after, rule_numbers}
use Rattle.ysyntax.specs.TreeViews.{rule_text_view}
use Rattle.ygrammar.proofs.rules.push_rules.Given as goal

abbrev pub invariant-loop-rule_text : goal.invariant-loop-rule_text
invariant-loop-rule_text l = record {
  rules : l.rules.items ++ map (rule_numbers l.names l.given)
      (rules_from l.before l.next (map rule_text_view (drop l.rule_text-index l.rule_texts))) ≡
      l.fn.rules.items ++ map (rule_numbers l.names l.given)
      (rules_from [] 1 (map rule_text_view l.rule_texts));
  counted : inner_after l.next (map rule_text_view (drop l.rule_text-index l.rule_texts)) ≡
      inner_after 1
      (map rule_text_view l.rule_texts);
}
