use Rattle.std.proofs.Common.{◌≡◌, ◌++◌, drop, map}
use Rattle.std.specs.List.{flat_map, AllByRecursion}
use Rattle.ygrammar.specs.Texts.{texts_of_rule}
use Rattle.ysyntax.specs.TreeTexts.{RuleTextStands}
use Rattle.ysyntax.specs.TreeViews.{rule_text_view}
use Rattle.ygrammar.proofs.rules.push_texts.Given as goal

abbrev pub invariant-loop-rule_text : goal.invariant-loop-rule_text
invariant-loop-rule_text l = record {
  source : l.texts.source ≡ l.fn.texts.source;
  texts : l.texts.texts ++ flat_map texts_of_rule (map rule_text_view (drop l.rule_text-index
      l.rule_texts)) ≡
      l.fn.texts.texts ++ flat_map texts_of_rule (map rule_text_view l.rule_texts);
  stands : AllByRecursion (RuleTextStands l.texts.source) (drop l.rule_text-index l.rule_texts);
}
