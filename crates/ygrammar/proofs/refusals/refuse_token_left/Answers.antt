use Rattle.std.proofs.Common.{ap, ◌∙◌, map, refl, List}
use Rattle.ysyntax.specs.declared.tree.NameAt.{NameAt}
use Rattle.ysymbols.specs.Names.{is_among}
use Rattle.ysyntax.specs.TreeViews.{name_view}
use Rattle.ygrammar.proofs.MistakeSteps.{any_found, no_token_left, token_left, token_typed}
use Rattle.ygrammar.proofs.PlaceSteps.{token_left_at, token_typed_at}
use Rattle.ygrammar.proofs.refusals.refuse_token_left.Goals as goal

pub returns-in-Some-clause-clears : goal.returns-in-Some-clause-clears
returns-in-Some-clause-clears c = λ t o e. (
  refl,
  token_typed t c.args.tokens.now (map name_view c.deref.result.now)
      c.first_token.result c.in-Some.at e
      (ap (λ (xs : List NameAt). map name_view xs) c.deref.ensures.value ∙ o.typed)
      (any_found (is_among c.args.tokens.now) name_view (λ n. n.at)
      c.deref.result.now _ c.first_token.ensures) c.in-Some.is,
)

pub returns-in-Some-first_token-clause-clears : goal.returns-in-Some-first_token-clause-clears
returns-in-Some-first_token-clause-clears c = λ t o e. (
  refl,
  token_left t c.args.tokens.now (map name_view c.deref-2.result.now)
      c.first_token-2.result c.in-Some-first_token.at e
      (ap (λ (xs : List NameAt). map name_view xs) c.deref-2.ensures.value ∙ o.lefts)
      (any_found (is_among c.args.tokens.now) name_view (λ n. n.at)
      c.deref-2.result.now _ c.first_token-2.ensures) c.in-Some-first_token.is,
)

pub returns-in-None-clause-clears : goal.returns-in-None-clause-clears
returns-in-None-clause-clears c = λ t o e. no_token_left t c.args.tokens.now
    (map name_view c.deref.result.now) (map name_view c.deref-2.result.now) c.first_token.result
    c.first_token-2.result e (ap (λ (xs : List NameAt). map name_view xs) c.deref.ensures.value ∙
    o.typed) (ap (λ (xs : List NameAt). map name_view xs) c.deref-2.ensures.value ∙ o.lefts)
    (any_found (is_among c.args.tokens.now) name_view (λ n. n.at)
    c.deref.result.now _ c.first_token.ensures)
    (any_found (is_among c.args.tokens.now) name_view (λ n. n.at)
    c.deref-2.result.now _ c.first_token-2.ensures) c.in_default.is c.in-None.is

pub returns-in-Some-clause-place : goal.returns-in-Some-clause-place
returns-in-Some-clause-place c = λ t ds rs out e.
    token_typed_at t c.args.tokens.now e c.args.outline.now ds rs out c.deref.result.now
    c.deref.ensures.value c.first_token.result c.first_token.ensures c.in-Some.at c.in-Some.is

pub returns-in-Some-first_token-clause-place : goal.returns-in-Some-first_token-clause-place
returns-in-Some-first_token-clause-place c = λ t ds rs out e.
    token_left_at t c.args.tokens.now e c.args.outline.now ds rs out c.deref.result.now
    c.deref.ensures.value c.first_token.result c.first_token.ensures c.deref-2.result.now
    c.deref-2.ensures.value c.first_token-2.result c.first_token-2.ensures c.in_default.is
    c.in-Some-first_token.at c.in-Some-first_token.is
