use Rattle.std.proofs.Common.{ℕ, arith, ◌≡◌, ◌+◌, List, ◌∷◌, [], ◌++◌, sym, subst, ap, ◌∙◌}
use Rattle.ycode.specs.declared.entry.Entry.{Entry}
use Rattle.ycode.specs.Bits.{SetsValue}
use Rattle.ycode.specs.Cells.{AreCells, AreSets, set_number, states_of}
use Rattle.ycode.proofs.CellLoops.{cells_more, sets_more}
use Rattle.ycode.proofs.cells.all_cells.Goals as goal

pub loop-q-preserved : goal.loop-q-preserved
loop-q-preserved c =
    let v = c.args.tables.now in
    let p = c.args.policy in
    let q = c.loop-q.q in
    let old = c.loop-q.known in
    let new = c.set_of.new.sets in
    let inv = c.loop-q.invariant in
    let e1 : c.push.new.self.items ≡ c.loop-q.usual.items ++ c.in_ok-rule.rule ∷ [] =
    c.in_ok-push.ensures.items in
    let e2 : c.push-in-loop-q.new.self.items ≡ c.loop-q.sets.items ++ c.in_ok-set.set ∷ [] =
    c.in_ok-push-2.ensures.items in
    let e3 : c.push-in-loop-q-2.new.self.items ≡ c.loop-q.rows.items ++ c.in_ok-entries.entries ∷ []
    = c.in_ok-push-3.ensures.items in
    let known : AreSets p v (q + 1) new = sets_more p v q old new inv.sets c.in_ok-set.ensures.keeps
    c.in_ok-set.ensures.listed c.in_ok-set.ensures.exact in
    let all = cells_more p v q c.loop-q.usual.items c.loop-q.sets.items old new c.loop-q.rows.items
    c.in_ok-rule.rule c.in_ok-set.set c.in_ok-entries.entries inv.cells inv.sets
    c.in_ok-set.ensures.keeps c.in_ok-rule.ensures c.in_ok-set.ensures.set
    c.in_ok-entries.ensures.entries c.in_ok-entries.ensures.none c.in_ok-entries.ensures.most
    (c.in_ok-set.ensures.number ∙ ap (λ (s : SetsValue). set_number p v s q) known.are)
    c.in_ok-entries.ensures.list in
    record {
      cells = subst (λ x. AreCells p v (q + 1) x c.push-in-loop-q.new.self.items new
          c.push-in-loop-q-2.new.self.items) (sym e1)
          (subst (λ x. AreCells p v (q + 1) (c.loop-q.usual.items ++ c.in_ok-rule.rule ∷ []) x new
          c.push-in-loop-q-2.new.self.items) (sym e2)
          (subst (λ (x : List (List Entry)). AreCells p v (q + 1)
          (c.loop-q.usual.items ++ c.in_ok-rule.rule ∷ [])
          (c.loop-q.sets.items ++ c.in_ok-set.set ∷ []) new x) (sym e3) all));
      sets = known;
    }

pub returns-clause-cells : goal.returns-clause-cells
returns-clause-cells c =
    let v = c.args.tables.now in
    let p = c.args.policy in
    let e : c.loop-q.q ≡ states_of v = (let t = c.loop-q-test.false in
    let u = c.loop-q.auto.q-end in let s = c.requires.states in omega (arith, t, u, s)) in
    subst (λ (n : ℕ). AreCells p v n c.loop-q.usual.items c.loop-q.sets.items c.loop-q.known
    c.loop-q.rows.items) e c.loop-q.invariant.cells

pub returns-clause-sets : goal.returns-clause-sets
returns-clause-sets c =
    let v = c.args.tables.now in
    let p = c.args.policy in
    let e : c.loop-q.q ≡ states_of v = (let t = c.loop-q-test.false in
    let u = c.loop-q.auto.q-end in let s = c.requires.states in omega (arith, t, u, s)) in
    subst (λ (n : ℕ). AreSets p v n c.loop-q.known) e c.loop-q.invariant.sets
