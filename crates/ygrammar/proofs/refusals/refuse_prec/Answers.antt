use Rattle.std.proofs.Common.{ap, ◌∙◌, map, refl, List, length}
use Rattle.ysyntax.specs.declared.tree.Occurrence.{Occurrence}
use Rattle.ysymbols.specs.Names.{number_in}
use Rattle.ydeclarations.specs.Printed.{printed_name}
use Rattle.ygrammar.specs.Numbered.{is_between}
use Rattle.ysyntax.specs.TreeViews.{occurrence_view}
use Rattle.ygrammar.proofs.MistakeSteps.{any_found, no_prec, prec_found}
use Rattle.ygrammar.proofs.PlaceSteps.{prec_at}
use Rattle.ygrammar.proofs.refusals.refuse_prec.Goals as goal

pub returns-in-Some-clause-clears : goal.returns-in-Some-clause-clears
returns-in-Some-clause-clears c = λ t o e f. (
  refl,
  prec_found t c.args.symbols.now c.args.tokens
      (map occurrence_view c.deref.result.now) c.first_nonterminal.result c.in-Some.at e f
      (ap (λ (xs : List Occurrence). map occurrence_view xs) c.deref.ensures.value ∙ o.precs)
      (any_found (λ i. is_between c.args.tokens (length c.args.symbols.now)
      (number_in c.args.symbols.now (printed_name i))) occurrence_view (λ m. m.at)
      c.deref.result.now _ c.first_nonterminal.ensures) c.in-Some.is,
)

pub returns-in-None-clause-clears : goal.returns-in-None-clause-clears
returns-in-None-clause-clears c = λ t o e f. no_prec t c.args.symbols.now c.args.tokens
    (map occurrence_view c.deref.result.now) c.first_nonterminal.result e f
    (ap (λ (xs : List Occurrence). map occurrence_view xs) c.deref.ensures.value ∙ o.precs)
    (any_found (λ i. is_between c.args.tokens (length c.args.symbols.now)
    (number_in c.args.symbols.now (printed_name i))) occurrence_view (λ m. m.at)
    c.deref.result.now _ c.first_nonterminal.ensures) c.in-None.is

pub returns-in-Some-clause-place : goal.returns-in-Some-clause-place
returns-in-Some-clause-place c = λ t ds rs out e f.
    prec_at t c.args.symbols.now c.args.tokens e f c.args.outline.now ds rs out
    c.deref.result.now c.deref.ensures.value c.first_nonterminal.result
    c.first_nonterminal.ensures c.in-Some.at c.in-Some.is
