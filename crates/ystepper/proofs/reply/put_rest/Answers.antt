use Rattle.std.proofs.Common.{ap, is_some, ◌≡◌, ◌+◌, suc, take, subst, ◌∷◌, ℕ, List, true, false}
use Rattle.std.proofs.Common.{arith}
use Rattle.ylink.specs.Sends.{Sends}
use Rattle.ytables.specs.Text.{spaced_names}
use Rattle.ymachine.specs.Machine.{Configuration, Machine}
use Rattle.ysession.specs.Session.{machine_of, history_of}
use Rattle.ymachine.specs.Unwinding.{tokens_left}
use Rattle.ylink.proofs.Sent.{Sends-part, Sends-next}
use Rattle.ystepper.proofs.Replying.{rest_at, rest_count}
use Rattle.ystepper.proofs.reply.put_rest.Goals as goal

pub returns-in_err-put_name : goal.returns-in_err-put_name
returns-in_err-put_name g c =
    let w = g.W.Write.contents in
    let m : Machine = machine_of c.args.session.now in
    let now : Configuration = (history_of c.args.session.now).now in
    let symbol = rest_at _ now _ c.loop-index.index c.view-view.ensures c.rest-token.ensures in
    let count = rest_count _ now _ c.view-view.ensures c.rest_len-index-end.ensures in
    let cut = subst (λ (s : ℕ). Sends w c.loop-index.writer c.put_name.new.writer false
    (32 ∷ m.name s)) symbol c.in_err-put_name.ensures in
    Sends-part w (λ s. 32 ∷ m.name s) _ _ _ (is_some c.from_residual.result)
    (tokens_left now.rest) c.loop-index.index 0 (ap is_some c.from_residual.ensures)
    (omega (arith, count)) c.loop-index.invariant cut

pub loop-index-preserved : goal.loop-index-preserved
loop-index-preserved g c =
    let w = g.W.Write.contents in
    let m : Machine = machine_of c.args.session.now in
    let now : Configuration = (history_of c.args.session.now).now in
    let rest : List ℕ = tokens_left now.rest in
    let symbol = rest_at _ now _ c.loop-index.index c.view-view.ensures c.rest-token.ensures in
    let count = rest_count _ now _ c.view-view.ensures c.rest_len-index-end.ensures in
    let added = subst (λ (s : ℕ). Sends w c.loop-index.writer c.put_name.new.writer true
    (32 ∷ m.name s)) symbol c.in_ok-put_name.ensures in
    let next : suc c.loop-index.index ≡ c.loop-index.index + 1 = omega arith in
    subst (λ (i : ℕ). Sends w c.args.writer.now c.put_name.new.writer true
    (spaced_names m.name (take i rest)))
    next (Sends-next w (λ s. 32 ∷ m.name s) _ _ _ rest c.loop-index.index 0
    (omega (arith, count)) c.loop-index.invariant added)
