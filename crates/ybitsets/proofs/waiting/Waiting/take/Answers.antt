use Rattle.std.proofs.Common.{List, Bool, ◌∙◌, sym, subst}
use Rattle.ybitsets.specs.Marks.{Has}
use Rattle.ybitsets.specs.Waiting.{AreListed}
use Rattle.ybitsets.proofs.WaitingSteps.{out_marked, out_unmarked, none_marked}
use Rattle.ybitsets.proofs.waiting.Waiting.take.Goals as goal

pub has-requires : goal.has-requires
has-requires c = c.loop-p.invariant.listed.within c.in-Some.p c.in-Some.ensures.there

pub invariant_of-self : goal.invariant_of-self
invariant_of-self c =
    let w = c.loop-p.self-inside in
    subst (λ (m : List Bool). AreListed m c.pop.new.round.items c.pop.new.next.items)
    (sym c.unmark.ensures) (out_marked w.marks w.round.items w.next.items c.pop.new.round.items
    c.pop.new.next.items c.in-Some.p c.loop-p.invariant.listed c.in-Some.ensures)

pub loop-p-preserved : goal.loop-p-preserved
loop-p-preserved c =
    let w = c.loop-p.self-inside in
    record {
      same = c.loop-p.invariant.same;
      listed = out_unmarked w.marks w.round.items w.next.items c.pop.new.round.items
          c.pop.new.next.items c.in-Some.p c.loop-p.invariant.listed c.in-Some.ensures
          (sym c.has.ensures ∙ c.if-has.false);
    }

pub invariant_of-self-in_default : goal.invariant_of-self-in_default
invariant_of-self-in_default c =
    let w = c.loop-p.self-inside in
    record {
      listed = λ p h. absurd (none_marked w.marks w.round.items w.next.items
          c.loop-p.invariant.listed c.in_default.ensures.0 p h);
      within = λ p h. absurd (c.in_default.ensures.1 p h);
    }

pub returns : goal.returns
returns c =
    let w = c.loop-p.self-inside in
    λ p h. none_marked w.marks w.round.items w.next.items c.loop-p.invariant.listed
    c.in_default.ensures.0 p (subst (λ (m : List Bool). Has m p)
    (sym (c.loop-p.invariant.same ∙ c.self.view_is)) h)
