use Rattle.std.proofs.Common.{ℕ, ◌≡◌, ◌<◌, ◌+◌, [], ◌∷◌, List, length, get_or, None, ap}
use Rattle.std.proofs.Common.{◌∙◌, arith, unwrap_or, length-append}
use Rattle.ytables.specs.declared.cell.Action.{Action}
use Rattle.ytables.specs.declared.cell.Action.TheVariants.{Error}
use Rattle.ytables.specs.Cell.{by_default}
use Rattle.ytables.proofs.GotoSteps.{tokens_by}
use Rattle.ytables.proofs.TableSteps.{rows_step, sums_step, conflicts_step}
use Rattle.ytables.proofs.tables.all_rows.Goals as goal

pub loop-q-preserved : goal.loop-q-preserved
loop-q-preserved c =
    let m = c.args.automaton.now in
    let q = c.loop-q.q in
    let inv = c.loop-q.invariant in
    let row = c.in_ok-row.row in
    let entries = c.in_ok-entries.entries.items in
    let tokens = tokens_by c.token_count-tokens.ensures c.grammar-grammar.ensures in
    let pushed = rw c.deref-in-loop-q.ensures.value at c.in_ok-push.ensures in
    let longer = c.in_ok-push-2.ensures.items in
    let listed = c.in_ok-push-3.ensures.items in
    let same : (t : ℕ) → t < m.grammar.bare.tokens → by_default row.default
    (unwrap_or (get_or entries t None) Error) ≡ by_default row.default
    (get_or row.actions.items t Error) = λ t l.
    c.in_ok-entries.ensures.entries t (let a = ap length c.deref.ensures.value in
    let b = c.in_ok-row.ensures.len in omega (arith, a, b, l, tokens))
    ∙ ap (λ (x : List Action). by_default row.default (get_or x t Error)) c.deref.ensures.value in
    record {
      count = pushed.count ∙ ap (λ n. n + 1) inv.count;
      width = pushed.width ∙ inv.width;
      defaults = ap length longer ∙ length-append c.loop-q.defaults.items (row.default ∷ []) ∙ ap
          (λ n. n + 1) inv.defaults;
      listed = ap length listed ∙ length-append c.loop-q.conflicts.items (row.conflicts ∷ []) ∙ ap
          (λ n. n + 1) inv.listed;
      shift_reduce = (let a = c.in_ok-row.ensures.shift_reduce in let b = inv.shift_reduce in
          omega (arith, a, b));
      reduce_reduce = (let a = c.in_ok-row.ensures.reduce_reduce in let b = inv.reduce_reduce in
          omega (arith, a, b));
      rows = λ u h. rows_step m u q row.actions.items row.default row.shift_reduce row.reduce_reduce
          row.choice (c.in_ok-row.ensures.row u h) c.loop-q.actions c.push.new.self entries
          c.loop-q.defaults.items c.push-in-loop-q.new.self.items inv.count (inv.width ∙ tokens)
          inv.defaults pushed longer same (inv.rows u h);
      sums = λ u h. sums_step m u q row.actions.items row.default row.shift_reduce row.reduce_reduce
          row.choice (c.in_ok-row.ensures.row u h) c.loop-q.shift_reduce c.loop-q.reduce_reduce
          c.loop-q.chosen (inv.sums u h);
      conflicts = λ u h. conflicts_step m u q row.actions.items row.default row.shift_reduce
          row.reduce_reduce row.choice (c.in_ok-row.ensures.row u h) c.loop-q.conflicts.items
          c.push-in-loop-q-2.new.self.items row.conflicts inv.listed listed
          (c.in_ok-row.ensures.conflicts u h) (inv.conflicts u h);
    }

pub returns-clause-sums : goal.returns-clause-sums
returns-clause-sums c = λ u h.
    let a = c.loop-q-test.false in
    let b = c.loop-q.auto.q-end in
    let e = c.states-states.ensures.count in
    let done : c.loop-q.q ≡ length c.args.automaton.now.states = omega (arith, a, b, e) in
    rw done at c.loop-q.invariant.sums u h
