use Rattle.std.proofs.Common.{ℕ, List, Option, None, [], ◌∷◌, ◌++◌, ◌∙◌, ap, map}
use Rattle.std.specs.List.{flat_map}
use Rattle.ysyntax.specs.declared.tree.RuleText.{RuleText}
use Rattle.ygrammar.specs.Texts.{texts_of_rule}
use Rattle.ysymbols.specs.Sources.{TextsValue}
use Rattle.ysyntax.specs.TreeViews.{rule_text_view}
use Rattle.ygrammar.proofs.TextSteps.{rules_texts}
use Rattle.ygrammar.proofs.rules.kept_texts.Goals as goal

pub returns : goal.returns
returns c =
    let more : List RuleText → List (Option (List ℕ)) = λ cs.
    flat_map texts_of_rule (map rule_text_view cs) in
    ap (λ (t : TextsValue). t.texts) c.in_ok-push_texts.ensures
    ∙ ap (λ (t : TextsValue). t.texts ++ more c.deref.result.now) c.in_ok-push_text.ensures
    ∙ ap (λ (t : TextsValue). (t.texts ++ None ∷ []) ++ more c.deref.result.now)
    c.in_ok-texts.ensures
    ∙ ap (λ (cs : List RuleText). None ∷ more cs) c.deref.ensures.value
    ∙ ap (λ (ts : List (Option (List ℕ))). None ∷ ts)
    (rules_texts [] 1 (map rule_text_view c.args.tree.now.rule_texts.items))
