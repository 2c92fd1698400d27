use Rattle.std.proofs.Common.{ℕ, ◌≡◌, ◌∙◌, ◌≤◌, ap, filter, length, List, Bool, map, not, rules}
use Rattle.std.proofs.Common.{slice_index_or, subst, sym, true}
use Rattle.std.proofs.lemmas.Result.{IfOk-weaker}
use Rattle.ysymbols.specs.Marking.{numbered_grammar}
use Rattle.ysymbols.specs.Names.{Name, number_in}
use Rattle.ydeclarations.specs.Elaboration.{symbols}
use Rattle.ysyntax.specs.Tree.{Tree}
use Rattle.ysyntax.specs.TreeViews.{name_view, tree_view}
use Rattle.ygrammar.specs.declared.elaboration.Named.{Named}
use Rattle.ygrammar.proofs.MeaningSteps.{in_bare, numbered_bare}
use Rattle.ygrammar.proofs.PlaceSteps.{all_barren}
use Rattle.ygrammar.proofs.Wellness.{tokens_within}
use Rattle.ygrammar.proofs.elaboration.barren_among.Goals as goal

counted : (t : Tree) (n : Named) (count : ℕ) → n.names ≡ symbols t →
    count ≡ length n.names → count ≡ length (symbols t)
counted t n count a e = e ∙ ap (λ (x : List Name). length x) a

pub productive-requires-clause-within : goal.productive-requires-clause-within
productive-requires-clause-within c =
    let t = tree_view c.args.tree.now in
    subst (λ k. c.args.named.now.tokens ≤ k)
    (sym (counted t c.args.named.now c.len.result c.requires.names c.len.ensures))
    (subst (λ k. k ≤ length (symbols t)) (sym c.requires.tokens) (tokens_within t))

pub productive-requires-clause-in_range : goal.productive-requires-clause-in_range
productive-requires-clause-in_range c =
    let t = tree_view c.args.tree.now in
    let n = counted t c.args.named.now c.len.result c.requires.names c.len.ensures in
    in_bare t c.args.named.now.tokens c.len.result c.deref-3.result.now c.requires.shaped
    c.requires.defined c.requires.started n
    (numbered_bare c.args.tree.now c.args.named.now.names c.args.named.now.tokens
    c.len.result c.args.outline.now c.deref.result.now c.deref-2.result.now
    c.in_ok-rules.rules.items c.deref-3.result.now c.requires.names c.requires.tokens n
    c.requires.outline c.deref-2.ensures.value c.in_ok-rules.ensures c.deref-3.ensures.value)

pub returns : goal.returns
returns c = λ ds rs out.
    let t = tree_view c.args.tree.now in
    let n = counted t c.args.named.now c.len.result c.requires.names c.len.ensures in
    let g = numbered_grammar c.args.named.now.tokens c.len.result c.deref-3.result.now in
    let same = numbered_bare c.args.tree.now c.args.named.now.names
    c.args.named.now.tokens c.len.result c.args.outline.now c.deref.result.now
    c.deref-2.result.now c.in_ok-rules.rules.items c.deref-3.result.now c.requires.names
    c.requires.tokens n c.requires.outline c.deref-2.ensures.value c.in_ok-rules.ensures
    c.deref-3.ensures.value in
    let sized : length c.in_ok-marks.marks.items ≡ c.len.result = search rules in
    IfOk-weaker c.unmarked_lefts.result _ _ (λ v is. all_barren t
    c.args.named.now.names c.requires.names c.in_ok-marks.marks.items g same sized
    c.in_ok-marks.ensures.exact c.args.outline.now ds rs out c.deref-4.result.now
    c.deref-4.ensures.value v.items (is ∙ ap (λ (m : List Bool). map (λ l. l.at)
    (filter (λ l. not (slice_index_or m (number_in c.args.named.now.names (name_view l))
    true)) c.deref-4.result.now)) c.deref-5.ensures.value)) c.unmarked_lefts.ensures
