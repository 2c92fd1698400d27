use Rattle.std.proofs.Common.{ap, sym, ◌∙◌, map, length, refl, List}
use Rattle.ydeclarations.specs.declared.outline.Started.{Started}
use Rattle.ydeclarations.specs.Outline.{start_view}
use Rattle.ygrammar.proofs.MistakeSteps.{no_start, start_found}
use Rattle.std.proofs.Common.{◌≡◌, Some, None, subst}
use Rattle.std.specs.Prelude.{IfSome}
use Rattle.std.specs.List.{last_or}
use Rattle.ysymbols.specs.Sources.{option_view}
use Rattle.ygrammar.proofs.PlaceSteps.{start_stands}
use Rattle.ygrammar.proofs.refusals.refuse_start.Goals as goal
use Rattle.std.proofs.lemmas.List.{length-map}

pub returns-in-Some-clause-clears : goal.returns-in-Some-clause-clears
returns-in-Some-clause-clears c = λ t o e f. (
  refl,
  start_found t c.args.symbols.now c.args.tokens (length c.deref.result.now)
      (map start_view c.deref.result.now) c.bad_start.result c.in-Some.at e f
      (ap (λ (xs : List Started). map start_view xs) c.deref.ensures.value ∙ o.starts)
      (sym (length-map c.deref.result.now start_view)) c.bad_start.ensures.found c.in-Some.is,
)

pub returns-in-None-clause-clears : goal.returns-in-None-clause-clears
returns-in-None-clause-clears c = λ t o e f. no_start t c.args.symbols.now c.args.tokens
    (length c.deref.result.now) (map start_view c.deref.result.now) c.bad_start.result e f
    (ap (λ (xs : List Started). map start_view xs) c.deref.ensures.value ∙ o.starts)
    (sym (length-map c.deref.result.now start_view)) c.bad_start.ensures.found c.in-None.is

pub returns-in-Some-clause-place : goal.returns-in-Some-clause-place
returns-in-Some-clause-place c = λ t ds rs out.
    start_stands c.args.outline.now ds rs out c.deref.result.now c.deref.ensures.value
    c.in-Some.at (subst (λ o. IfSome o (λ at. option_view (λ s. s.at)
    (last_or None c.deref.result.now) ≡ Some at)) c.in-Some.is c.bad_start.ensures.place)
