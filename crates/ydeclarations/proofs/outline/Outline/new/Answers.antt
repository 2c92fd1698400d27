use Rattle.std.proofs.Common.{◌∙◌, ap, List}
use Rattle.std.specs.List.{flat_map}
use Rattle.ysyntax.specs.declared.tree.Definition.{Definition}
use Rattle.ysyntax.specs.declared.tree.RuleText.{RuleText}
use Rattle.ydeclarations.specs.OutlineSites.{entries_in, lefts_in, precs_in, starts_in, typed_in}
use Rattle.ydeclarations.specs.OutlineSites.{used_in}
use Rattle.ydeclarations.proofs.SiteSteps.{left_sites, listed_sites, number_sites, of_declarations}
use Rattle.ydeclarations.proofs.SiteSteps.{of_rules}
use Rattle.ydeclarations.proofs.SiteSteps.{prec_sites, start_sites, typed_sites, use_sites}
use Rattle.ydeclarations.proofs.outline.Outline.new.Goals as goal

pub returns-clause-sites : goal.returns-clause-sites
returns-clause-sites c =
    let ds : List Definition = c.args.tree.now.definitions.items in
    let cs : List RuleText = c.args.tree.now.rule_texts.items in
    record {
      of_declarations = of_declarations ds;
      of_rules = of_rules cs;
      typed = typed_sites ds _ (c.in_ok-all_typed.ensures.all
          ∙ ap (λ (z : List Definition). flat_map typed_in z) c.deref-3.ensures.value);
      starts = start_sites ds _ (c.in_ok-all_starts.ensures.all
          ∙ ap (λ (z : List Definition). flat_map starts_in z) c.deref-2.ensures.value);
      listed = listed_sites ds _ (c.in_ok-all_listed.ensures.all
          ∙ ap (λ (z : List Definition). flat_map entries_in z) c.deref.ensures.value);
      numbers = number_sites ds _ (c.in_ok-all_listed.ensures.all
          ∙ ap (λ (z : List Definition). flat_map entries_in z) c.deref.ensures.value);
      lefts = left_sites cs _ (c.in_ok-all_lefts.ensures.all
          ∙ ap (λ (z : List RuleText). flat_map lefts_in z) c.deref-5.ensures.value);
      used = use_sites cs _ (c.in_ok-all_used.ensures.all
          ∙ ap (λ (z : List RuleText). flat_map used_in z) c.deref-6.ensures.value);
      precs = prec_sites cs _ (c.in_ok-all_precs.ensures.all
          ∙ ap (λ (z : List RuleText). flat_map precs_in z) c.deref-7.ensures.value);
    }
