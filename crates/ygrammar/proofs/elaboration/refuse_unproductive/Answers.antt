use Rattle.std.proofs.Common.{◌≡◌, ◌∙◌, ap, slice_index_or, false, true, not, unwrap_or, List, Bool}
use Rattle.std.proofs.Common.{length, rules}
use Rattle.std.specs.List.{find}
use Rattle.ysymbols.specs.Names.{number_in}
use Rattle.ysymbols.specs.Marking.{numbered_grammar}
use Rattle.ysymbols.specs.Sources.{option_view}
use Rattle.ysyntax.specs.TreeViews.{name_view}
use Rattle.ygrammar.proofs.MeaningSteps.{barren_holds}
use Rattle.ygrammar.proofs.PlaceSteps.{barren_at}
use Rattle.ygrammar.proofs.elaboration.refuse_unproductive.Goals as goal

pub returns-then-not-index-clause-place : goal.returns-then-not-index-clause-place
returns-then-not-index-clause-place c = λ t o e same shows ds rs out.
    let off : slice_index_or c.in_ok-marks.marks.items c.loop-s.s false ≡ false = search rules in
    let sized : length c.in_ok-marks.marks.items ≡ c.args.symbols = search rules in
    barren_at t c.args.names.now e c.in_ok-marks.marks.items
    (numbered_grammar c.args.tokens c.args.symbols c.args.rules.now) same
    sized c.in_ok-marks.ensures.exact c.args.outline.now ds rs out
    c.deref.result.now c.deref.ensures.value o.lefts (shows (barren_holds t _ c.in_ok-marks.marks.items c.loop-s.s same
    c.in_ok-marks.ensures.exact c.loop-s.auto.s c.loop-s-test.true off)) c.unmarked_left.result
    (c.unmarked_left.ensures ∙ ap (λ (m : List Bool). unwrap_or (option_view (λ l. l.at)
    (find (λ l. not (slice_index_or m (number_in c.args.names.now (name_view l)) true))
    c.deref.result.now)) 0) c.deref-then-not-index.ensures.value)
