use Rattle.std.proofs.Common.{◌≡◌, ◌+◌, List, get_or, length, map, sym, subst, refl, ◌∙◌}
use Rattle.std.proofs.Common.{arith, length-set, Vec}
use Rattle.std.specs.Global.{Global}
use Rattle.ydeclarations.specs.Outline.{listed_view}
use Rattle.ygrammar.specs.declared.holders.Holders.{Holders}
use Rattle.ygrammar.specs.declared.holders.Holders.TheVariants.{Nobody}
use Rattle.ysymbols.specs.Grammar.{number_bound}
use Rattle.ydeclarations.proofs.OwnSteps.{digits_are, no_digits}
use Rattle.ygrammar.specs.Numbers.{HasNumber, IsHolders}
use Rattle.ygrammar.proofs.NumberPlaces.{more_given, none_at, unfit_at}
use Rattle.ygrammar.proofs.holders.hold_given.Goals.{in-Some+in-Some-fit_number}
use Rattle.ygrammar.proofs.holders.hold_given.Goals.{in-Some+in_default-fit_number, in_default}
use Rattle.ygrammar.proofs.holders.hold_given.Goals as goal

pub loop-one-preserved : goal.loop-one-preserved
loop-one-preserved c = elim c.match-one.branch [
  | in_default w ↦ record {
    each = subst (λ (v : Vec Holders Global). length v.items ≡ number_bound) (sym w.holders-is)
        c.loop-one.invariant.each;
    given = λ own are m. subst (λ (v : Vec Holders Global). IsHolders (get_or v.items m Nobody)
        (HasNumber c.args.tokens.now own (map listed_view c.args.listed.now)
        (c.loop-one.one-index + 1) m)) (sym w.holders-is)
        (none_at c.args.tokens.now own c.args.listed.now c.loop-one.one-index _
        c.loop-one-test.true c.loop-one.holders.items
        (no_digits (get_or c.args.listed.now c.loop-one.one-index _) w.in_default.is)
        (c.loop-one.invariant.given own are) m);
  }
  | in-Some+in_default-fit_number w ↦ record {
    each = subst (λ (v : Vec Holders Global). length v.items ≡ number_bound) (sym w.holders-is)
        c.loop-one.invariant.each;
    given = λ own are m. subst (λ (v : Vec Holders Global). IsHolders (get_or v.items m Nobody)
        (HasNumber c.args.tokens.now own (map listed_view c.args.listed.now)
        (c.loop-one.one-index + 1) m)) (sym w.holders-is)
        (unfit_at c.args.tokens.now own c.args.listed.now c.loop-one.one-index _
        c.loop-one-test.true c.loop-one.holders.items _
        (digits_are (get_or c.args.listed.now c.loop-one.one-index _) _ _ w.in-Some.is refl)
        w.in_default-fit_number.ensures
        (c.loop-one.invariant.given own are) m);
  }
  | in-Some+in-Some-fit_number w ↦ record {
    each = subst (λ (v : Vec Holders Global). length v.items ≡ number_bound) (sym w.holders-is)
        (subst (λ (hs : List Holders). length hs ≡ number_bound) (sym w.hold.ensures)
        (length-set c.loop-one.holders.items w.in-Some-fit_number.number _
        ∙ c.loop-one.invariant.each));
    given = λ own are m. subst (λ (v : Vec Holders Global). IsHolders (get_or v.items m Nobody)
        (HasNumber c.args.tokens.now own (map listed_view c.args.listed.now)
        (c.loop-one.one-index + 1) m)) (sym w.holders-is)
        (subst (λ (hs : List Holders). IsHolders (get_or hs m Nobody)
        (HasNumber c.args.tokens.now own (map listed_view c.args.listed.now)
        (c.loop-one.one-index + 1) m)) (sym w.hold.ensures)
        (more_given c.args.tokens.now own c.args.listed.now c.loop-one.one-index _
        c.loop-one-test.true c.loop-one.holders.items w.in-Some-fit_number.number w.number_of.result
        (digits_are (get_or c.args.listed.now c.loop-one.one-index _) _ _ w.in-Some.is
        w.in-Some-fit_number.ensures.0) w.in-Some-fit_number.ensures.1 w.number_of.ensures
        (let b = w.in-Some-fit_number.ensures.1.1 in let e = c.loop-one.invariant.each in
        omega (arith, b, e)) (c.loop-one.invariant.given own are) m));
  }
]
