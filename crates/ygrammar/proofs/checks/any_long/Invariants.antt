use Rattle.std.proofs.Common.{◌≡◌, drop}
use Rattle.std.specs.List.{list_any}
use Rattle.ygrammar.specs.Numbered.{is_long}
use Rattle.ygrammar.proofs.checks.any_long.Given as goal

abbrev pub invariant-loop-rule : goal.invariant-loop-rule
invariant-loop-rule l = list_any is_long (drop l.rule-index l.rules) ≡ list_any is_long l.rules
