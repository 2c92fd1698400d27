use Rattle.std.proofs.Common.{ap, refl, sym, subst, length, List, ℕ, ◌≤◌, ◌∙◌}
use Rattle.ydeclarations.specs.declared.mistake.Mistake.TheVariants as mistakes
use Rattle.ygrammar.specs.Elaborated.{AreNumbered, Decides}
use Rattle.ydeclarations.specs.Elaboration.{tokens}
use Rattle.ydeclarations.specs.Mistakes.{Holds}
use Rattle.ysyntax.specs.TreeViews.{tree_view}
use Rattle.std.proofs.Common.{◌++◌}
use Rattle.ydeclarations.specs.OutlineSites.{IsPlaced}
use Rattle.ygrammar.proofs.PlaceSteps.{passes_place}
use Rattle.ygrammar.proofs.ElaborationSteps.{passes, refuses}
use Rattle.ygrammar.proofs.MeaningSteps.{are_in, numbered_rules}
use Rattle.ygrammar.proofs.SomeBarren.{some_barren}
use Rattle.ygrammar.proofs.SymbolNames.{spelled_names}
use Rattle.ygrammar.proofs.Wellness.{tokens_within}
use Rattle.ygrammar.proofs.elaboration.sound_rules.Goals.{In_ok-rules}
use Rattle.ygrammar.proofs.elaboration.sound_rules.Goals as goal

numbered : (c : In_ok-rules) → AreNumbered (tree_view c.args.tree.now) c.in_ok-rules.rules.items
numbered c = numbered_rules c.args.tree.now c.args.named.now c.args.outline.now
    c.deref.result.now c.deref-2.result.now _ c.requires.named c.requires.outline
    c.deref.ensures.value c.deref-2.ensures.value c.in_ok-rules.ensures

no_bad_start : (c : In_ok-rules) → Holds (tree_view c.args.tree.now) mistakes.BadStart → ⊥
no_bad_start c = c.in_ok-refuse_start.ensures.clears _ c.requires.outline c.requires.named.names
    c.requires.named.tokens_first

pub refuse_rules-requires-clause-within : goal.refuse_rules-requires-clause-within
refuse_rules-requires-clause-within c =
    let t = tree_view c.args.tree.now in
    let n = c.requires.named in
    subst (λ k. k ≤ length c.args.named.now.names) (sym n.tokens_first)
    (subst (λ (ns : List (List ℕ)). length (tokens t) ≤ length ns) (sym n.names) (tokens_within t))

pub refuse_rules-requires-clause-in_range : goal.refuse_rules-requires-clause-in_range
refuse_rules-requires-clause-in_range c =
    let here = (goal.at.refuse_rules-requires-clause-in_range c).In_ok-rules in
    let n = c.requires.named in
    are_in (tree_view c.args.tree.now) _ _ _ c.requires.shaped n.all_defined (no_bad_start here)
    n.tokens_first (ap (λ (ns : List (List ℕ)). length ns) n.names)
    (c.deref-3.ensures.value ∙ numbered here)

pub returns-in_err-refuse_start-clause-decides : goal.returns-in_err-refuse_start-clause-decides
returns-in_err-refuse_start-clause-decides c =
    let t = tree_view c.args.tree.now in
    let n = c.requires.named in
    refuses (λ r. Decides t r) t 4 mistakes.BadStart c.in_err-refuse_start.field-0.0 _
    (λ y f. f) refl c.from_residual.ensures.1
    (n.no_token_left, (n.all_defined, (n.once, (n.own.sound, tt))))
    (c.in_err-refuse_start.ensures.clears t c.requires.outline n.names n.tokens_first)

pub returns-in_err-refuse_rules-clause-decides : goal.returns-in_err-refuse_rules-clause-decides
returns-in_err-refuse_rules-clause-decides c =
    let t = tree_view c.args.tree.now in
    let here = (goal.at.returns-in_err-refuse_rules-clause-decides c).In_ok-rules in
    passes t c.in_err-refuse_rules.field-0.0 _ c.from_residual-in_err-refuse_rules.ensures.1
    (c.in_err-refuse_rules.ensures.decides t c.requires.outline c.requires.named
    (c.deref-3.ensures.value ∙ numbered here) (no_bad_start here))

pub returns-clause-numbered : goal.returns-clause-numbered
returns-clause-numbered c = numbered (goal.at.returns-clause-numbered c).In_ok-rules

pub returns-clause-decides : goal.returns-clause-decides
returns-clause-decides c =
    let here = (goal.at.returns-clause-decides c).In_ok-rules in
    c.in_ok-refuse_rules.ensures.decides _ c.requires.outline c.requires.named
    (c.deref-3.ensures.value ∙ numbered here) (no_bad_start here)

pub returns-in_err-refuse_start-clause-place : goal.returns-in_err-refuse_start-clause-place
returns-in_err-refuse_start-clause-place c = λ ds rs out.
    passes_place (IsPlaced (tree_view c.args.tree.now) (ds ++ rs)) c.in_err-refuse_start.field-0.0 _
    c.from_residual.ensures.1
    (c.in_err-refuse_start.ensures.place (tree_view c.args.tree.now) ds rs out)

pub returns-in_err-refuse_rules-clause-place : goal.returns-in_err-refuse_rules-clause-place
returns-in_err-refuse_rules-clause-place c = λ ds rs out.
    let here = (goal.at.returns-in_err-refuse_rules-clause-place c).In_ok-rules in
    passes_place (IsPlaced (tree_view c.args.tree.now) (ds ++ rs)) c.in_err-refuse_rules.field-0.0 _
    c.from_residual-in_err-refuse_rules.ensures.1
    (c.in_err-refuse_rules.ensures.place (tree_view c.args.tree.now) c.requires.outline
    c.requires.named (c.deref-3.ensures.value ∙ numbered here) (some_barren _ c.requires.shaped
    (spelled_names c.requires.spelled.0 _ _ c.requires.spelled.1 refl) (no_bad_start here))
    ds rs out)
