use Rattle.ydeclarations.specs.Elaboration.{prec_of}
use Rattle.ysyntax.specs.TreeViews.{rule_text_view, occurrence_view}
use Rattle.ydeclarations.specs.OutlineSites.{precs_in}
use Rattle.ydeclarations.proofs.Gathering.{Gathers}
use Rattle.ydeclarations.proofs.outline.all_precs.Given as goal

abbrev pub invariant-loop-rule_text : goal.invariant-loop-rule_text
invariant-loop-rule_text l = Gathers occurrence_view prec_of rule_text_view precs_in
    l.found.items l.rule_texts l.rule_text-index
