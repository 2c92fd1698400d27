use Rattle.ydeclarations.specs.Elaboration.{uses_of}
use Rattle.ysyntax.specs.TreeViews.{rule_text_view, occurrence_view}
use Rattle.ydeclarations.specs.OutlineSites.{used_in}
use Rattle.ydeclarations.proofs.Gathering.{Gathers}
use Rattle.ydeclarations.proofs.outline.all_used.Given as goal

abbrev pub invariant-loop-rule_text : goal.invariant-loop-rule_text
invariant-loop-rule_text l = Gathers occurrence_view uses_of rule_text_view used_in
    l.found.items l.rule_texts l.rule_text-index
