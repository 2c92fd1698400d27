use Rattle.std.proofs.Common.{◌≡◌, ◌<◌, ◌∙◌, List, get_or, length, ap, sym, subst, arith}
use Rattle.ylalr.specs.declared.items.Item.{Item}
use Rattle.ylalr.specs.Sets.{InRange}
use Rattle.ylalr.proofs.DraftSteps.{further_then, served_more}
use Rattle.ylalr.proofs.looks.visit_state.Goals as goal

pub fill-requires-clause-range : goal.fill-requires-clause-range
fill-requires-clause-range c = subst (InRange c.args.lr0.now.grammar.bare)
    (sym c.items-items.ensures) (c.requires.fit.states.each c.args.q c.requires.state).range

pub loop-k-preserved : goal.loop-k-preserved
loop-k-preserved c =
    let P = c.args.lr0.now in
    let i = c.loop-k.invariant in
    let e = c.in_ok-visit.ensures in
    let xs = c.items-items.result.now in
    let x : Item = get_or xs c.loop-k.k (record { rule = 0; dot = 0 }) in
    record {
      sound = e.sound;
      further = further_then c.args.draft.now c.loop-k.draft c.visit.new.draft i.further e.further;
      serves = served_more P c.loop-k.draft c.visit.new.draft c.args.q c.loop-k.k xs
          c.rows-rows.result.now (record { rule = 0; dot = 0 }) c.items-items.ensures
          c.rows-rows.ensures c.loop-k-test.true e.further i.serves e.serves;
    }

pub returns-clause-serves : goal.returns-clause-serves
returns-clause-serves c = λ i p z.
    (let e : c.loop-k.k ≡ length c.items-items.result.now = omega arith in
    c.loop-k.invariant.serves i p z
    (subst (λ j. z.at.index < j)
    (sym (e ∙ ap (λ (w : List Item). length w) c.items-items.ensures)) z.at.within))
