use Rattle.std.proofs.Common.{◌++◌, ◌≡◌, ◌<◌, ◌≤◌, ◌+◌, List, ◌∷◌, ◌||◌, [], length, get_or, sym}
use Rattle.std.proofs.Common.{ap}
use Rattle.std.proofs.Common.{◌∙◌, subst, arith, length-append}
use Rattle.std.proofs.lemmas.List.{get_or_read}
use Rattle.ysymbols.specs.Grammar.{GrammarValue, most_rules, most_symbols}
use Rattle.ytables.specs.declared.cell.Action.{Action}
use Rattle.ytables.specs.declared.cell.Tally.{Tally}
use Rattle.ytables.specs.Rows.{IsRowTo}
use Rattle.ytables.specs.Tally.{no_tally}
use Rattle.ytables.specs.Tables.{conflict_at}
use Rattle.ytables.proofs.RowSteps.{row_more, conflicts_more}
use Rattle.ytables.proofs.row.cells_of.Goals.{After-settled-cell}
use Rattle.ytables.proofs.row.cells_of.Goals as goal

-- a cell counts no more than there are rules, and there are no more tokens than symbols
bounds : (c : After-settled-cell) → (c.settled-cell.result.shift_reduce ≤ most_rules) ×
    (c.settled-cell.result.reduce_reduce ≤ most_rules) × (c.loop-t.t < most_symbols)
bounds c =
    let y = c.index.result.now in
    let items = c.in_ok-tallies.tallies.items in
    let t = c.loop-t-test.true in
    let e = c.in_ok-tallies.ensures.len in
    let within : c.loop-t.t < length items = omega (arith, e, t) in
    let at : y ≡ get_or items c.loop-t.t no_tally =
    get_or_read items c.loop-t.t y within c.index.ensures no_tally in
    let few = subst (λ (y : Tally). (y.rests ≤ y.all) × (y.kept ≤ y.all) × (y.all ≤ most_rules))
    (sym at) (c.in_ok-tallies.ensures.small c.loop-t.t within) in
    let r = few.0 in
    let k = few.1 in
    let n = few.2 in
    let a = c.settled-cell.ensures.shift_reduce in
    let b = c.settled-cell.ensures.reduce_reduce in
    let w = c.symbols-well_formed.ensures.well_formed in
    let tokens = subst (λ (v : GrammarValue). v.bare.tokens ≤ v.bare.symbols) c.grammar.ensures
    w.within in
    let symbols = subst (λ (v : GrammarValue). v.bare.symbols ≤ most_symbols) c.grammar.ensures
    w.small in
    let len = c.requires.tokens in
    (omega (arith, a, r, n), omega (arith, b, k, n), omega (arith, t, len, tokens, symbols))

pub overflow_add-shift_reduce : goal.overflow_add-shift_reduce
overflow_add-shift_reduce c =
    let b = bounds (goal.at.overflow_add-shift_reduce c).After-settled-cell in
    omega (arith, b.0, b.2, c.loop-t.invariant.shift_reduce)

pub overflow_add-reduce_reduce : goal.overflow_add-reduce_reduce
overflow_add-reduce_reduce c =
    let b = bounds (goal.at.overflow_add-reduce_reduce c).After-settled-cell in
    omega (arith, b.1, b.2, c.loop-t.invariant.reduce_reduce)

pub loop-t-preserved : goal.loop-t-preserved
loop-t-preserved c =
    let m = c.args.automaton.now in
    let b = bounds (goal.at.loop-t-preserved c).After-settled-cell in
    let x = b.0 in
    let z = b.1 in
    let s = c.loop-t.invariant.shift_reduce in
    let d = c.loop-t.invariant.reduce_reduce in
    record {
      len = (let n = c.loop-t.invariant.len in ap length c.in_ok-push.ensures.items ∙ length-append
          c.loop-t.actions.items (c.settled-cell.result.action ∷ []) ∙ ap (λ n. n + 1) n);
      shift_reduce = omega (arith, x, s);
      reduce_reduce = omega (arith, z, d);
      row = λ u h. subst (λ (l : List Action). IsRowTo m u c.args.q (c.loop-t.t + 1) l
          (c.loop-t.shift_reduce + c.settled-cell.result.shift_reduce)
          (c.loop-t.reduce_reduce + c.settled-cell.result.reduce_reduce)
          (c.loop-t.choice || c.settled-cell.result.choice)) (sym c.in_ok-push.ensures.items)
          (row_more m u c.args.q c.loop-t.t c.loop-t.actions.items c.loop-t.shift_reduce
          c.loop-t.reduce_reduce c.loop-t.choice c.settled-cell.result
          (c.loop-t.invariant.row u h) (c.settled-cell.ensures.cell u h));
      conflicts = λ u h. c.in_ok-keep.ensures ∙ ap (λ l. l ++ conflict_at c.loop-t.t
          c.settled-cell.result) (c.loop-t.invariant.conflicts u h) ∙ conflicts_more m u c.args.q
          c.loop-t.t c.settled-cell.result (c.settled-cell.ensures.cell u h);
    }
