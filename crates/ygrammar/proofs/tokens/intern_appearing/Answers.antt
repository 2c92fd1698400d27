use Rattle.std.proofs.Common.{◌≡◌, List, map, filter, subst}
use Rattle.std.proofs.lemmas.Result.{on_ok_weaker}
use Rattle.ysyntax.specs.declared.tree.Occurrence.{Occurrence}
use Rattle.ysymbols.specs.Names.{is_among, with_names}
use Rattle.ydeclarations.specs.Printed.{printed_name}
use Rattle.ysyntax.specs.TreeViews.{occurrence_view}
use Rattle.ygrammar.proofs.NotingSteps.{both_noted}
use Rattle.ygrammar.proofs.tokens.intern_appearing.Goals as goal

pub returns : goal.returns
returns c =
    let k = c.args.names.now in
    let one : c.intern_those.new.tokens ≡ with_names c.args.tokens.now
    (filter (is_among k) (map printed_name (map occurrence_view
    c.args.outline.now.declared.items))) =
    subst (λ (ms : List Occurrence). c.intern_those.new.tokens ≡ with_names
    c.args.tokens.now (filter (is_among k) (map printed_name (map occurrence_view ms))))
    c.deref.ensures.value c.in_ok-intern_those.ensures in
    on_ok_weaker c.intern_those-2.result (λ two. both_noted c.args.tokens.now k
    c.intern_those.new.tokens c.intern_those-2.new.tokens
    (map occurrence_view c.args.outline.now.declared.items)
    (map occurrence_view c.args.outline.now.used.items) one
    (subst (λ (ms : List Occurrence). c.intern_those-2.new.tokens ≡ with_names
    c.intern_those.new.tokens (filter (is_among k) (map printed_name (map occurrence_view
    ms)))) c.deref-2.ensures.value two)) c.intern_those-2.ensures
