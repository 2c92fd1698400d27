use Rattle.std.proofs.Common.{◌≡◌, [], map, drop}
use Rattle.ydeclarations.specs.Elaboration.{rule_left, rules_from}
use Rattle.ysymbols.specs.Names.{with_names}
use Rattle.ygrammar.specs.Numbered.{inner_after}
use Rattle.ysyntax.specs.TreeViews.{rule_text_view}
use Rattle.ygrammar.proofs.rules.intern_lefts.Given as goal

abbrev pub invariant-loop-rule_text : goal.invariant-loop-rule_text
invariant-loop-rule_text l = record {
  names : with_names l.names
      (map rule_left (rules_from l.before l.next (map rule_text_view (drop l.rule_text-index
      l.rule_texts))))
      ≡ with_names l.fn.names (map rule_left (rules_from [] 1 (map rule_text_view
      l.rule_texts)));
  counted : inner_after l.next (map rule_text_view (drop l.rule_text-index l.rule_texts)) ≡
      inner_after 1
      (map rule_text_view l.rule_texts);
}
