use Rattle.std.proofs.Common.{sym}
use Rattle.ylexemes.proofs.Fronts.{c_identifier_is, some_length}
use Rattle.ylexemes.proofs.Gaps.{gap_none, gap_blank, gap_comment}
use Rattle.ylexemes.proofs.bytes.after_gap.Goals as goal

pub loop-rest-init : goal.loop-rest-init
loop-rest-init c = gap_none c.args.bytes.now

pub loop-rest-preserved-then-is_blank : goal.loop-rest-preserved-then-is_blank
loop-rest-preserved-then-is_blank c =
    let some = some_length c.loop-rest.rest.now c.is_empty.result c.is_empty.ensures
    c.loop-rest-test.true in
    gap_blank c.args.bytes.now c.loop-rest.rest.now c.split_at.result.1.now _ c.loop-rest.invariant
    (c_identifier_is c.loop-rest.rest.now c.split_at.result.1.now some c.split_at.ensures.back)
    (sym c.if-is_blank.ensures)

pub loop-rest-preserved : goal.loop-rest-preserved
loop-rest-preserved c =
    let (text, comment, whole) = c.in-Some.ensures in
    gap_comment c.args.bytes.now c.loop-rest.rest.now c.in-Some.tail.now text c.loop-rest.invariant
    comment whole
