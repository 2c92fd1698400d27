use Rattle.std.proofs.Common.{ap, sym, is_some, ◌≡◌, length, get_or, subst, List, ◌∷◌, ℕ, false}
use Rattle.std.proofs.Common.{◌∙◌, arith}
use Rattle.std.proofs.lemmas.List.{length-map}
use Rattle.ylink.specs.Sends.{Sends}
use Rattle.ymachine.specs.Machine.{Configuration, Entry, symbols}
use Rattle.ysession.specs.Session.{machine_of, history_of}
use Rattle.ylink.proofs.Sent.{Sends-part}
use Rattle.ystepper.proofs.reply.put_stack.Goals as goal

pub returns-in_err-put_name : goal.returns-in_err-put_name
returns-in_err-put_name g c =
    let w = g.W.Write.contents in
    let m = machine_of c.args.session.now in
    let stack : List ℕ = symbols (history_of c.args.session.now).now.stack in
    let symbol : c.stack.result ≡ get_or stack c.loop-index.index 0 = c.stack.ensures
    ∙ ap (λ (d : Configuration). get_or (symbols d.stack) c.loop-index.index 0) c.view-view.ensures
    in
    let count : c.stack_len-index-end.result ≡ length stack = c.stack_len-index-end.ensures.value
    ∙ ap (λ (d : Configuration). length d.stack) c.view-view.ensures
    ∙ sym (length-map (history_of c.args.session.now).now.stack (λ (e : Entry). e.symbol)) in
    let cut : Sends w c.loop-index.writer c.put_name.new.writer false
    (32 ∷ m.name (get_or stack c.loop-index.index 0)) =
    subst (λ (s : ℕ). Sends w c.loop-index.writer c.put_name.new.writer false (32 ∷ m.name s))
    symbol c.in_err-put_name.ensures in
    Sends-part w (λ s. 32 ∷ m.name s) _ _ _ (is_some c.from_residual.result) stack
    c.loop-index.index 0 (ap is_some c.from_residual.ensures) (omega arith) c.loop-index.invariant
    cut
