use Rattle.std.proofs.Common.{◌<◌, inl, inr, get_or, refl, arith, subst, ◌≤◌}
use Rattle.ydeclarations.proofs.OwnSteps.{digits_are, no_digits}
use Rattle.ygrammar.proofs.NumberPlaces.{next_none, next_one, none_faulty, stands_here}
use Rattle.ygrammar.proofs.holders.first_at_fault.Goals as goal

pub loop-i-preserved-then-not-is_shared : goal.loop-i-preserved-then-not-is_shared
loop-i-preserved-then-not-is_shared c = next_one c.args.listed.now c.args.fault c.args.holders.now
    c.loop-i.i _ c.loop-i-test.true c.in-Some-fit_number.number
    (digits_are (get_or c.args.listed.now c.loop-i.i _) _ _ c.in-Some.is
    c.in-Some-fit_number.ensures.0) c.in-Some-fit_number.ensures.1
    (subst (λ n. c.loop-i.i < n) c.unwrap_or-end.ensures c.if-i-end.true)
    c.if-not-is_shared.ensures c.loop-i.invariant

pub returns-else-i-end : goal.returns-else-i-end
returns-else-i-end c = stands_here c.args.listed.now c.args.fault c.args.holders.now
    c.loop-i.i _ c.loop-i-test.true c.in-Some-fit_number.number _
    (digits_are (get_or c.args.listed.now c.loop-i.i _) _ _ c.in-Some.is
    c.in-Some-fit_number.ensures.0) c.in-Some.is c.loop-i.invariant
    (elim c.else-i-end.branch [
      | goal.else-i-end-via-then-i-end+else-not-is_shared w ↦ inr (inr w.if-not-is_shared.ensures)
      | goal.else-i-end-via-else-i-end w ↦
          inr (inl (subst (λ n. n ≤ c.loop-i.i) c.unwrap_or-end.ensures w.if-i-end.false))
    ])

pub returns-in_default-fit_number : goal.returns-in_default-fit_number
returns-in_default-fit_number c = stands_here c.args.listed.now c.args.fault c.args.holders.now
    c.loop-i.i _ c.loop-i-test.true _ _
    (digits_are (get_or c.args.listed.now c.loop-i.i _) _ _ c.in-Some.is refl) c.in-Some.is
    c.loop-i.invariant (inl c.in_default-fit_number.ensures)

pub loop-i-preserved : goal.loop-i-preserved
loop-i-preserved c = next_none c.args.listed.now c.args.fault c.args.holders.now c.loop-i.i _
    c.loop-i-test.true (no_digits (get_or c.args.listed.now c.loop-i.i _) c.in_default.is)
    c.loop-i.invariant

pub returns : goal.returns
returns c = none_faulty c.args.listed.now c.args.fault c.args.holders.now c.loop-i.i (omega arith)
    c.loop-i.invariant
