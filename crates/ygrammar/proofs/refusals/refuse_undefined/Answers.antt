use Rattle.std.proofs.Common.{ap, ◌∙◌, map, refl, List, not}
use Rattle.ysyntax.specs.declared.tree.Occurrence.{Occurrence}
use Rattle.ysyntax.specs.declared.tree.NameAt.{NameAt}
use Rattle.ysymbols.specs.Names.{is_among}
use Rattle.ydeclarations.specs.Printed.{printed_name}
use Rattle.ysyntax.specs.TreeViews.{occurrence_view, name_view}
use Rattle.ygrammar.proofs.MistakeSteps.{all_defined, any_found, undefined_used, unknown_typed}
use Rattle.ygrammar.proofs.PlaceSteps.{unknown_typed_at, unknown_used_at}
use Rattle.ygrammar.proofs.refusals.refuse_undefined.Goals as goal

pub returns-in-Some-clause-clears : goal.returns-in-Some-clause-clears
returns-in-Some-clause-clears c = λ t o e. (
  refl,
  unknown_typed t c.args.symbols.now (map name_view c.deref.result.now)
      c.first_unknown.result c.in-Some.at e
      (ap (λ (xs : List NameAt). map name_view xs) c.deref.ensures.value ∙ o.typed)
      (any_found (λ n. not (is_among c.args.symbols.now n)) name_view (λ n. n.at)
      c.deref.result.now _ c.first_unknown.ensures) c.in-Some.is,
)

pub returns-in-Some-first_undefined-clause-clears : goal.returns-in-Some-first_undefined-clause-clears
returns-in-Some-first_undefined-clause-clears c = λ t o e. (
  refl,
  undefined_used t c.args.symbols.now (map occurrence_view c.deref-2.result.now)
      c.first_undefined.result c.in-Some-first_undefined.at e
      (ap (λ (xs : List Occurrence). map occurrence_view xs) c.deref-2.ensures.value ∙ o.used)
      (any_found (λ i. not (is_among c.args.symbols.now (printed_name i))) occurrence_view
      (λ m. m.at) c.deref-2.result.now _ c.first_undefined.ensures) c.in-Some-first_undefined.is,
)

pub returns-in-None-clause-clears : goal.returns-in-None-clause-clears
returns-in-None-clause-clears c = λ t o e. all_defined t c.args.symbols.now
    (map name_view c.deref.result.now) (map occurrence_view c.deref-2.result.now)
    c.first_unknown.result c.first_undefined.result e
    (ap (λ (xs : List NameAt). map name_view xs) c.deref.ensures.value ∙ o.typed)
    (ap (λ (xs : List Occurrence). map occurrence_view xs) c.deref-2.ensures.value ∙ o.used)
    (any_found (λ n. not (is_among c.args.symbols.now n)) name_view (λ n. n.at)
    c.deref.result.now _ c.first_unknown.ensures)
    (any_found (λ i. not (is_among c.args.symbols.now (printed_name i))) occurrence_view
    (λ m. m.at) c.deref-2.result.now _ c.first_undefined.ensures) c.in_default.is
    c.in-None.is

pub returns-in-Some-clause-place : goal.returns-in-Some-clause-place
returns-in-Some-clause-place c = λ t ds rs out e.
    unknown_typed_at t c.args.symbols.now e c.args.outline.now ds rs out
    c.deref.result.now c.deref.ensures.value c.first_unknown.result c.first_unknown.ensures
    c.in-Some.at c.in-Some.is

pub returns-in-Some-first_undefined-clause-place :
    goal.returns-in-Some-first_undefined-clause-place
returns-in-Some-first_undefined-clause-place c = λ t ds rs out e.
    unknown_used_at t c.args.symbols.now e c.args.outline.now ds rs out
    c.deref.result.now c.deref.ensures.value c.first_unknown.result c.first_unknown.ensures
    c.deref-2.result.now c.deref-2.ensures.value c.first_undefined.result
    c.first_undefined.ensures c.in_default.is c.in-Some-first_undefined.at
    c.in-Some-first_undefined.is
