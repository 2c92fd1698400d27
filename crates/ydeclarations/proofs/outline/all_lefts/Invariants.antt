use Rattle.ydeclarations.specs.Elaboration.{left_of_rule}
use Rattle.ysyntax.specs.TreeViews.{rule_text_view, name_view}
use Rattle.ydeclarations.specs.OutlineSites.{lefts_in}
use Rattle.ydeclarations.proofs.Gathering.{Gathers}
use Rattle.ydeclarations.proofs.outline.all_lefts.Given as goal

abbrev pub invariant-loop-rule_text : goal.invariant-loop-rule_text
invariant-loop-rule_text l = Gathers name_view left_of_rule rule_text_view lefts_in
    l.found.items l.rule_texts l.rule_text-index
