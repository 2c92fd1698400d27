use Rattle.std.proofs.Common.{rules, ◌≡◌, ◌<◌, ◌≤◌, length, ap, subst, ◌∙◌, true, false, arith}
use Rattle.std.specs.Prelude.{nat_le}
use Rattle.std.proofs.lemmas.Bool.{leb-true, leb-false}
use Rattle.std.proofs.lemmas.Grind.{common_steps}
use Rattle.ymachine.specs.Past.{most_steps}
use Rattle.ymachine.proofs.Pasts.{too_many, no_room, stands, refused}
use Rattle.ymachine.proofs.journal.keep.Goals as goal

pub returns-then-full : goal.returns-then-full
returns-then-full g c =
    let many : most_steps ≤ length c.args.changes.now.items =
    grind (arith, common_steps, c.len-full.ensures, c.if-full.true) in
    λ old what j a. too_many g.M.Reversible.next what g.M.Reversible.before g.M.Reversible.kind
    g.M.Reversible.fits old c.args.machine.now c.args.changes.now.items c.args.made j a
    c.in-Ok.change c.revert.new.self c.in-Ok.is c.revert.ensures many

pub returns-in-Ok-push : goal.returns-in-Ok-push
returns-in-Ok-push g c =
    let few : length c.args.changes.now.items < most_steps =
    grind (arith, common_steps, c.len-full.ensures, c.if-full.false) in
    λ old what j a. stands g.M.Reversible.next what g.M.Reversible.before g.M.Reversible.kind
    g.M.Reversible.fits old c.args.machine.now c.args.changes.now.items c.args.made j a
    c.in-Ok.change c.push.new.self.items c.in-Ok.is c.in-Ok-push.ensures.items few

pub returns-in-Err-push : goal.returns-in-Err-push
returns-in-Err-push g c =
    let r : c.in-Err-push.refused.value ≡ c.in-Ok.change = search rules in
    let few : length c.args.changes.now.items < most_steps =
    grind (arith, common_steps, c.len-full.ensures, c.if-full.false) in
    λ old what j a. no_room g.M.Reversible.next what g.M.Reversible.before g.M.Reversible.kind
    g.M.Reversible.fits old c.args.machine.now c.args.changes.now.items c.args.made j a
    c.in-Ok.change c.revert-in-Err-push.new.self c.push.new.self.items c.in-Ok.is
    (c.revert-in-Err-push.ensures ∙ ap (λ x. g.M.Reversible.before x c.args.machine.now) r)
    c.in-Err-push.ensures.items few

pub returns-in-Err : goal.returns-in-Err
returns-in-Err g c =
    let full = nat_le most_steps c.len-full.result in
    let len : c.len-full.result ≡ length c.args.changes.now.items =
    grind (arith, common_steps, c.len-full.ensures) in
    let many : full ≡ true → most_steps ≤ length c.args.changes.now.items =
    λ e. subst (λ n. most_steps ≤ n) len (leb-true most_steps c.len-full.result e) in
    let few : full ≡ false → length c.args.changes.now.items < most_steps =
    λ e. subst (λ n. n < most_steps) len (leb-false most_steps c.len-full.result e) in
    λ old what j a. refused g.M.Reversible.next what g.M.Reversible.before g.M.Reversible.kind
    g.M.Reversible.fits old c.args.machine.now c.args.changes.now.items c.args.made j a
    c.in-Err.fault c.refusal.result full c.in-Err.is c.refusal.ensures many few
