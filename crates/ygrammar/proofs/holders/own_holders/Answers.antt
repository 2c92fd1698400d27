use Rattle.std.proofs.Common.{◌<◌, sym, arith, Some, None, subst, Vec, ◌+◌}
use Rattle.std.specs.Global.{Global}
use Rattle.ygrammar.specs.declared.holders.Holders.{Holders}
use Rattle.ygrammar.proofs.NumberSteps.{Holding, at_place, holders_all, holders_more, holders_skip}
use Rattle.ygrammar.proofs.holders.own_holders.Goals.{in_default, in-Some}
use Rattle.ygrammar.proofs.holders.own_holders.Goals as goal

pub hold-requires : goal.hold-requires
hold-requires c = subst (λ n. c.in-Some.number < n) (sym c.loop-token.invariant.each)
    (c.requires c.in-Some.number (
      _,
      at_place c.args.own.now c.loop-token.token _ (omega arith)
          c.in-Some.is,
    ))

pub loop-token-preserved : goal.loop-token-preserved
loop-token-preserved c = elim c.match-own-token.branch [
  | in_default w ↦
      let own = c.args.own.now in
      let i = c.loop-token.token in
      subst (λ (v : Vec Holders Global). Holding c.args.count own v.items (i + 1))
      (sym w.holders-is)
      (holders_skip c.args.count own c.loop-token.holders.items i
      (at_place own i None (omega arith) w.in_default.is) c.loop-token.invariant)
  | in-Some w ↦
      let own = c.args.own.now in
      let i = c.loop-token.token in
      let n = w.in-Some.number in
      let p = at_place own i (Some n) (omega arith) w.in-Some.is in
      subst (λ (v : Vec Holders Global). Holding c.args.count own v.items (i + 1))
      (sym w.holders-is)
      (subst (λ hs. Holding c.args.count own hs (i + 1)) (sym w.hold.ensures)
      (holders_more c.args.count own c.loop-token.holders.items i n p
      (subst (λ k. n < k) (sym c.loop-token.invariant.each) (c.requires n (i, p)))
      c.loop-token.invariant))
]

pub returns : goal.returns
returns c = holders_all c.args.count c.args.own.now c.loop-token.holders.items c.loop-token.token
    (omega arith) c.loop-token.invariant
