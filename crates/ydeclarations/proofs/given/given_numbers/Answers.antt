use Rattle.std.proofs.Common.{sym, subst, map, drop, get_or, ◌+◌, ◌≤◌, Option, List, ℕ}
use Rattle.std.proofs.Common.{length, take, arith}
use Rattle.std.proofs.lemmas.List.{take_all, length-map}
use Rattle.ydeclarations.specs.declared.given.GivenNumbers.{GivenNumbers}
use Rattle.ydeclarations.specs.Elaboration.{Listing}
use Rattle.ydeclarations.specs.Outline.{listed_view}
use Rattle.ydeclarations.specs.Owned.{AllSmall, HasFirst, IsFirstWrong, TellsNumbers}
use Rattle.ydeclarations.proofs.OwnSteps.{adds_at, adds_none, no_digits}
use Rattle.ydeclarations.proofs.WrongSteps.{first_at, first_none_at, wrong_all, wrong_at}
use Rattle.ydeclarations.proofs.WrongSteps.{wrong_none_at}
use Rattle.ydeclarations.proofs.given.given_numbers.Goals.{Joined-listed-i, in_default, in-Some}
use Rattle.ydeclarations.proofs.given.given_numbers.Goals as goal

-- the numbers of the listings after the loop's
abbrev more : (c : Joined-listed-i) → List (Option ℕ) → Option ℕ → Type 0
more c table fault = TellsNumbers c.args.tokens.now
    (map listed_view (drop (c.loop-i.i + 1) c.args.listed.now)) (map listed_view c.args.listed.now)
    table fault

-- the table has the first numbers of the listings up to the loop's
abbrev first : (c : Joined-listed-i) → List (Option ℕ) → Type 0
first c table = HasFirst c.args.tokens.now table
    (take (c.loop-i.i + 1) (map listed_view c.args.listed.now))

-- the first wrong number of them
abbrev wrong : (c : Joined-listed-i) → Option ℕ → Type 0
wrong c fault = IsFirstWrong (map listed_view c.args.listed.now) (c.loop-i.i + 1) fault

pub loop-i-preserved : goal.loop-i-preserved
loop-i-preserved c = elim c.match-listed-i.branch [
  | in_default w ↦
      let xs = c.args.listed.now in
      let i = c.loop-i.i in
      let l = c.loop-i-test.true in
      let none = no_digits (get_or xs i _) w.in_default.is in
      record {
        small = subst (λ (g : GivenNumbers). AllSmall g.first.items) (sym w.given-is)
            c.loop-i.invariant.small;
        told = subst (λ (g : GivenNumbers). more c g.first.items g.fault) (sym w.given-is)
            (adds_none _ _ _ xs i _ l none c.loop-i.invariant.told);
        first = subst (λ (g : GivenNumbers). first c g.first.items) (sym w.given-is)
            (first_none_at _ _ _ xs i l none c.loop-i.invariant.first);
        fault = λ among. subst (λ (g : GivenNumbers). wrong c g.fault) (sym w.given-is)
            (wrong_none_at _ c.args.tokens.now c.loop-i.given.first.items xs i l _ none
            (c.loop-i.invariant.fault among));
      }
  | in-Some w ↦
      let xs = c.args.listed.now in
      let i = c.loop-i.i in
      let l = c.loop-i-test.true in
      record {
        small = subst (λ (g : GivenNumbers). AllSmall g.first.items) (sym w.given-is)
            (w.add.ensures.small c.loop-i.invariant.small);
        told = subst (λ (g : GivenNumbers). more c g.first.items g.fault) (sym w.given-is)
            (subst (λ (t : List (Option ℕ)). more c t w.add.new.self.fault)
            (sym w.add.ensures.first)
            (adds_at _ _ _ xs i _ _ _ _ _ l w.in-Some.is w.number_of-token.ensures
            w.fit_number.ensures w.add.ensures.fault c.loop-i.invariant.told));
        first = subst (λ (g : GivenNumbers). first c g.first.items) (sym w.given-is)
            (subst (λ (t : List (Option ℕ)). first c t) (sym w.add.ensures.first)
            (first_at _ _ _ xs i l _ _ _ w.in-Some.is w.number_of-token.ensures
            w.fit_number.ensures c.loop-i.invariant.first));
        fault = λ among. subst (λ (g : GivenNumbers). wrong c g.fault) (sym w.given-is)
            (wrong_at _ _ _ xs i l _ _ _ w.in-Some.is w.number_of-token.ensures
            w.fit_number.ensures _ _ among c.loop-i.invariant.first w.add.ensures.fault
            (c.loop-i.invariant.fault among));
      }
]

pub returns-clause-first : goal.returns-clause-first
returns-clause-first c = subst (λ (ys : List Listing). HasFirst c.args.tokens.now
    c.loop-i.given.first.items ys) (take_all c.loop-i.i (map listed_view c.args.listed.now)
    (subst (λ n. n ≤ c.loop-i.i) (sym (length-map c.args.listed.now listed_view))
    (omega arith))) c.loop-i.invariant.first

pub returns-clause-fault : goal.returns-clause-fault
returns-clause-fault c = λ all. wrong_all (map listed_view c.args.listed.now) c.loop-i.i
    (length c.args.listed.now) _ (omega arith) (c.loop-i.invariant.fault all)
