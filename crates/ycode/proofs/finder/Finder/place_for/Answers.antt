use Rattle.std.proofs.Common.{ℕ, ◌≡◌, ◌+◌, ◌∙◌, true, false, sym, subst, arith}
use Rattle.ycode.specs.Packing.{can_begin}
use Rattle.ycode.proofs.FinderSteps.{passed_all, passed_next}
use Rattle.ycode.proofs.PlaceSteps.{first_is, free_end}
use Rattle.ycode.proofs.finder.Finder.place_for.Goals as goal

pub returns-then-at-end-clause-none : goal.returns-then-at-end-clause-none
returns-then-at-end-clause-none c = λ e l.
    passed_all (λ (k : ℕ). can_begin c.args.packing.now c.args.columns.now k ≡ false) c.loop-d.d
    c.passed.result c.loop-d.invariant c.passed.ensures.none e
    (let t = c.if-at-end.true in omega (arith, t, l))

pub returns-then-at-end-clause-first : goal.returns-then-at-end-clause-first
returns-then-at-end-clause-first c = first_is c.args.packing.now c.args.columns.now
    c.len-end.result (let v = c.len-end.ensures.value in omega (arith, v))
    (λ e l. passed_all (λ (k : ℕ). can_begin c.args.packing.now c.args.columns.now k ≡ false)
    c.loop-d.d c.passed.result c.loop-d.invariant c.passed.ensures.none e
    (let t = c.if-at-end.true in omega (arith, t, l)))
    (λ m. absurd (let v = c.len-end.ensures.value in omega (arith, v, m)))

pub returns-then-at-end-clause-free : goal.returns-then-at-end-clause-free
returns-then-at-end-clause-free c =
    subst (λ (k : ℕ). can_begin c.args.packing.now c.args.columns.now k ≡ true)
    (sym c.len-end.ensures.value)
    (free_end c.args.packing.now c.args.columns.now c.len-end.ensures.valid)

pub returns-then-can_begin-clause-none : goal.returns-then-can_begin-clause-none
returns-then-can_begin-clause-none c = λ e l.
    passed_all (λ (k : ℕ). can_begin c.args.packing.now c.args.columns.now k ≡ false) c.loop-d.d
    c.passed.result c.loop-d.invariant c.passed.ensures.none e l

pub returns-then-can_begin-clause-first : goal.returns-then-can_begin-clause-first
returns-then-can_begin-clause-first c = first_is c.args.packing.now c.args.columns.now
    (c.loop-d.d + c.passed.result) (let v = c.len-end.ensures.value in let t = c.if-at-end.false in
    omega (arith, v, t))
    (λ e l. passed_all (λ (k : ℕ). can_begin c.args.packing.now c.args.columns.now k ≡ false)
    c.loop-d.d c.passed.result c.loop-d.invariant c.passed.ensures.none e l)
    (λ m. sym c.can_begin.ensures ∙ c.if-can_begin.true)

pub loop-d-preserved : goal.loop-d-preserved
loop-d-preserved c =
    passed_next (λ (k : ℕ). can_begin c.args.packing.now c.args.columns.now k ≡ false)
    (c.loop-d.d + c.passed.result)
    (λ e l. passed_all (λ (k : ℕ). can_begin c.args.packing.now c.args.columns.now k ≡ false)
    c.loop-d.d c.passed.result c.loop-d.invariant c.passed.ensures.none e l)
    (sym c.can_begin.ensures ∙ c.if-can_begin.false)

pub returns-clause-first : goal.returns-clause-first
returns-clause-first c = first_is c.args.packing.now c.args.columns.now c.len-end.result
    (let v = c.len-end.ensures.value in omega (arith, v))
    (λ e l. c.loop-d.invariant e (let t = c.loop-d-test.false in omega (arith, t, l)))
    (λ m. absurd (let v = c.len-end.ensures.value in omega (arith, v, m)))

pub returns-clause-free : goal.returns-clause-free
returns-clause-free c =
    subst (λ (k : ℕ). can_begin c.args.packing.now c.args.columns.now k ≡ true)
    (sym c.len-end.ensures.value)
    (free_end c.args.packing.now c.args.columns.now c.len-end.ensures.valid)
