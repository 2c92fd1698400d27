use Rattle.ylink.proofs.Sent.{Sends-then}
use Rattle.ysession.specs.Session.{machine_of, history_of}
use Rattle.ystepper.specs.Reply.{configuration_text}
use Rattle.ystepper.proofs.Replying.{front_none, front_then, front_cut}
use Rattle.ystepper.proofs.reply.put_configuration.Goals as goal

pub returns-in_err-put_head : goal.returns-in_err-put_head
returns-in_err-put_head g c =
    let w = g.W.Write.contents in
    let whole = configuration_text (machine_of c.args.session.now)
    (history_of c.args.session.now) in
    front_cut w _ _ _ c.from_residual.result whole _ _ (front_none w _ whole)
    c.in_err-put_head.ensures c.from_residual.ensures

pub returns-in_err-put_stack : goal.returns-in_err-put_stack
returns-in_err-put_stack g c =
    let w = g.W.Write.contents in
    let whole = configuration_text (machine_of c.args.session.now)
    (history_of c.args.session.now) in
    front_cut w _ _ _ c.from_residual-in_err-put_stack.result whole _ _
    (front_then w _ _ _ whole _ _ (front_none w _ whole) c.in_ok-put_head.ensures)
    c.in_err-put_stack.ensures c.from_residual-in_err-put_stack.ensures

pub returns-in_err-put : goal.returns-in_err-put
returns-in_err-put g c =
    let w = g.W.Write.contents in
    let whole = configuration_text (machine_of c.args.session.now)
    (history_of c.args.session.now) in
    front_cut w _ _ _ c.from_residual-in_err-put.result whole _ _
    (front_then w _ _ _ whole _ _
    (front_then w _ _ _ whole _ _ (front_none w _ whole) c.in_ok-put_head.ensures)
    c.in_ok-put_stack.ensures) c.in_err-put.ensures c.from_residual-in_err-put.ensures

pub returns-in_err-put_rest : goal.returns-in_err-put_rest
returns-in_err-put_rest g c =
    let w = g.W.Write.contents in
    let whole = configuration_text (machine_of c.args.session.now)
    (history_of c.args.session.now) in
    front_cut w _ _ _ c.from_residual-in_err-put_rest.result whole _ _
    (front_then w _ _ _ whole _ _ (front_then w _ _ _ whole _ _
    (front_then w _ _ _ whole _ _ (front_none w _ whole) c.in_ok-put_head.ensures)
    c.in_ok-put_stack.ensures) c.in_ok-put.ensures) c.in_err-put_rest.ensures
    c.from_residual-in_err-put_rest.ensures

pub returns : goal.returns
returns g c =
    let w = g.W.Write.contents in
    Sends-then w _ _ _ _ _ _ c.in_ok-put_head.ensures
    (Sends-then w _ _ _ _ _ _ c.in_ok-put_stack.ensures
    (Sends-then w _ _ _ _ _ _ c.in_ok-put.ensures
    (Sends-then w _ _ _ _ _ _ c.in_ok-put_rest.ensures c.put_errors.ensures)))
