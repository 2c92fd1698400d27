use Rattle.std.proofs.Common.{◌≡◌, ◌++◌, map, length}
use Rattle.std.specs.List.{flat_map, AllByRecursion}
use Rattle.ylexemes.specs.declared.kind.Sign.TheVariants.{Semicolon}
use Rattle.ysyntax.specs.declared.recogniser.State.TheVariants.{Semicolons}
use Rattle.ysyntax.specs.Answers.{views}
use Rattle.ysyntax.specs.TreeBuilder.{GoesOn, NoSign}
use Rattle.ysyntax.specs.SiteViews.{rule_text_sites}
use Rattle.ysyntax.specs.Tree.{IsRuleText, rule_text_yield}
use Rattle.ysyntax.specs.TreeTexts.{RuleTextStands}
use Rattle.ysyntax.specs.TreeViews.{rule_text_view}
use Rattle.ysyntax.proofs.TreeSteps.{FirstNamed}
use Rattle.ysyntax.proofs.SoFar.{SitesSoFar, StandSoFar}
use Rattle.ysyntax.proofs.tree_builder.TreeBuilder.rule_texts.Given as goal

abbrev pub invariant-rules : goal.invariant-rules
invariant-rules l = record {
  whole : views l.fn.self ≡ flat_map rule_text_yield (map rule_text_view l.rule_texts.items) ++
      views l.self;
  shaped : AllByRecursion IsRuleText (map rule_text_view l.rule_texts.items);
  first : FirstNamed l.rule_texts.items (views l.self);
  ended : NoSign Semicolon (views l.self);
  sites : SitesSoFar rule_text_sites l.rule_texts.items l.fn.self l.self;
  goes_on : GoesOn Semicolons l.self;
  stands : StandSoFar RuleTextStands l.rule_texts.items l.fn.self l.self;
}

abbrev pub decreases-rules : goal.decreases-rules
decreases-rules l = length l.self
