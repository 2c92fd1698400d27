use Rattle.std.proofs.Common.{arith, sym, ◌<◌, ◌+◌, ℕ, Some, None, length, subst, Vec}
use Rattle.std.specs.Global.{Global}
use Rattle.ygrammar.proofs.NumberSteps.{SoFar, at_place, numbers_all, numbers_free, numbers_own}
use Rattle.ygrammar.proofs.numbers.numbers.Goals.{in-Some+in_ok-push-in-Some}
use Rattle.ygrammar.proofs.numbers.numbers.Goals.{in-None+in_ok-push-in-None}
use Rattle.ygrammar.proofs.numbers.numbers.Goals as goal

pub loop-one-preserved : goal.loop-one-preserved
loop-one-preserved c = elim c.match-one.branch [
  | in-Some+in_ok-push-in-Some w ↦
      let own = c.args.own.now in
      let i = c.loop-one.one-index in
      let h : i < length own = omega arith in
      subst (λ n. SoFar own c.match-one.given.items (i + 1) n) (sym w.cursor-is)
      (subst (λ (v : Vec ℕ Global). SoFar own v.items (i + 1) c.loop-one.cursor) (sym w.given-is)
      (numbers_own own c.loop-one.given.items w.push.new.self.items i c.loop-one.cursor
      w.in-Some.number (at_place own i (Some w.in-Some.number) h w.in-Some.is)
      w.in_ok-push-in-Some.ensures.items c.loop-one.invariant))
  | in-None+in_ok-push-in-None w ↦
      let own = c.args.own.now in
      let i = c.loop-one.one-index in
      let h : i < length own = omega arith in
      subst (λ n. SoFar own c.match-one.given.items (i + 1) n) (sym w.cursor-is)
      (subst (λ (v : Vec ℕ Global). SoFar own v.items (i + 1) (w.next_free-number.result + 1))
      (sym w.given-is)
      (numbers_free own c.args.holders.now c.loop-one.given.items w.push-in-None.new.self.items i
      c.loop-one.cursor w.next_free-number.result c.requires.bound c.requires.held
      (at_place own i None h w.in-None.is) w.next_free-number.ensures.from
      w.next_free-number.ensures.bound w.next_free-number.ensures.free
      w.next_free-number.ensures.least w.in_ok-push-in-None.ensures.items c.loop-one.invariant))
]

pub returns : goal.returns
returns c = numbers_all c.args.own.now c.loop-one.given.items c.loop-one.one-index c.loop-one.cursor
    (omega arith) c.loop-one.invariant
