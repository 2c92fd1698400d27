use Rattle.std.proofs.Common.{◌≡◌, ◌<◌, List, Option, None, length, get_or, sym, ap, ◌∙◌}
use Rattle.std.proofs.Common.{subst, false}
use Rattle.std.specs.Vec.{with_items}
use Rattle.std.proofs.lemmas.List.{with_items_is}
use Rattle.ysymbols.specs.Grammar.{GrammarValue}
use Rattle.ytables.specs.declared.cell.Tally.{Tally}
use Rattle.ysymbols.specs.declared.precedence.Precedence.{Precedence}
use Rattle.ytables.specs.Tallies.{IsTallyBy, against}
use Rattle.ytables.specs.Tally.{no_tally}
use Rattle.ytables.proofs.tallies.tallies_of.Goals as goal

pub returns-clause-tallies : goal.returns-clause-tallies
returns-clause-tallies c = λ u h t l.
    let m = c.args.automaton.now in
    let new = c.add_items.new.tallies in
    let old = c.in_ok-tallies.tallies in
    let len : length new ≡ old.len = c.add_items.ensures.len ∙ ap length c.deref_mut.ensures.value ∙
    sym old.ok.0 in
    let items : (with_items old new).items ≡ new = with_items_is old new len in
    let fits : t < length c.deref_mut.result.now = subst (λ n. t < n) (sym
    (ap length c.deref_mut.ensures.value ∙ sym old.ok.0 ∙ c.in_ok-tallies.ensures.len)) l in
    let level : get_or c.deref.result.now t None ≡ against m.grammar
    (get_or c.args.before.now t false) t =
    ap (λ (xs : List (Option Precedence)). get_or xs t None) c.deref.ensures.value ∙
    c.in_ok-levels.ensures.levels t l ∙ ap (λ (v : GrammarValue). against v
    (get_or c.args.before.now t false) t) c.grammar.ensures in
    subst (λ (ys : List Tally). IsTallyBy m u c.args.q (against m.grammar
    (get_or c.args.before.now t false) t) t (get_or ys t no_tally)) (sym items)
    (subst (λ (o : Option Precedence). IsTallyBy m u c.args.q o t (get_or new t no_tally)) level
    (c.add_items.ensures.tallies u h t fits))
