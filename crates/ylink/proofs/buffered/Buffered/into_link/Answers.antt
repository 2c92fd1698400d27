use Rattle.std.proofs.Common.{◌∙◌, ◌≤◌, ap, arith, drop, length, subst, sym, is_some}
use Rattle.std.proofs.lemmas.List.{take_rest}
use Rattle.ylink.specs.declared.link.Link.{Link}
use Rattle.ylink.specs.Buffered.{Drains}
use Rattle.ylink.specs.Link.{device_of, has_failed}
use Rattle.ylink.proofs.Drained.{drains_lost, drains_nothing, drains_sent, drop_past}
use Rattle.ylink.proofs.buffered.Buffered.into_link.Goals as goal
use Rattle.ylink.proofs.buffered.Buffered.into_link.Goals.{then-not-failed+then-sent-len}
use Rattle.ylink.proofs.buffered.Buffered.into_link.Goals.{else-not-failed}
use Rattle.ylink.proofs.buffered.Buffered.into_link.Goals.{else-not-failed-via-else-not-failed}
use Rattle.ylink.proofs.buffered.Buffered.into_link.Goals.{else-not-failed-via-then-not-failed+else-sent-len}

pub returns : goal.returns
returns g c =
    let w = g.W.Write.contents in
    let it = c.args.self in
    elim c.if-not-failed.branch [
      | then-not-failed+then-sent-len v ↦
          subst (λ (l : Link g.row.W.Denot). Drains w it (device_of l) (has_failed l))
          (sym v.link-is) (drains_sent w it v.put.new.link (is_some v.put.result) _
          (take_rest v.deref.result.now it.sent ∙ ap (drop it.sent) v.deref.ensures.value)
          (sym c.failed.ensures ∙ v.if-not-failed.true) v.put.ensures)
      | else-not-failed v ↦
          subst (λ (l : Link g.row.W.Denot). Drains w it (device_of l) (has_failed l))
          (sym v.link-is) (elim v.else-not-failed.branch [
            | else-not-failed-via-then-not-failed+else-sent-len u ↦
                let past : length it.bytes.items ≤ it.sent =
                omega (arith, u.if-sent-len.false, u.len.ensures, it.bytes.ok.0) in
                drains_nothing w it (drop_past it.sent it.bytes.items past)
            | else-not-failed-via-else-not-failed u ↦
                drains_lost w it (sym c.failed.ensures ∙ u.if-not-failed.false)
          ])
    ]
