use Rattle.std.proofs.Common.{◌≡◌, ◌+◌, subst, sym, ap, ◌∙◌, get_or, arith}
use Rattle.ytables.specs.declared.class.Standing.TheVariants.{Higher}
use Rattle.ytables.specs.Tally.{tally_more}
use Rattle.yprovenance.specs.declared.settled.Rival.{Rival}
use Rattle.yprovenance.specs.Settled.{class_where}
use Rattle.yprovenance.proofs.SettledSteps.{IsTallyTo, tally_next, tally_whole}
use Rattle.yprovenance.proofs.settled.tally_of.Goals as goal

pub loop-rival-preserved : goal.loop-rival-preserved
loop-rival-preserved c =
    let rivals = c.args.rivals.now in
    let n = c.loop-rival.rival-index in
    let d : Rival = record { rule = 0; standing = Higher } in
    let r = get_or rivals n d in
    let more : c.add.new.self ≡ tally_more c.loop-rival.tally r.rule (class_where c.args.shifts r) =
    c.add.ensures ∙ ap (tally_more c.loop-rival.tally r.rule) c.class_where.ensures in
    subst (IsTallyTo c.args.shifts rivals (n + 1)) (sym more)
    (tally_next c.args.shifts rivals n d c.loop-rival.tally c.loop-rival-test.true
    c.loop-rival.invariant)

pub returns : goal.returns
returns c = tally_whole c.args.shifts c.args.rivals.now c.loop-rival.rival-index c.loop-rival.tally
    (let t = c.loop-rival-test.false in omega (arith, t)) c.loop-rival.invariant
