use Rattle.std.proofs.Common.{◌≡◌, ◌++◌, map, drop}
use Rattle.ysyntax.specs.TreeViews.{rule_text_view}
use Rattle.ysyntax.specs.Roles.{rules_from}
use Rattle.ysyntax.proofs.roles.push_rules.Given as goal

abbrev pub invariant-loop-rule : goal.invariant-loop-rule
invariant-loop-rule l = l.found.items ++ rules_from l.rule
    (map rule_text_view (drop l.rule l.texts)) ≡ l.fn.found.items ++ rules_from 0
    (map rule_text_view l.texts)
