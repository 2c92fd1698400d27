use Rattle.std.proofs.Common.{◌<◌, length}
use Rattle.ysession.specs.Session.{machine_of, history_of, later_of}
use Rattle.ymachine.specs.Unwinding.{form_of}
use Rattle.ysession.proofs.Unwound.{names_sent, names_cut}
use Rattle.ysession.proofs.unwind.put_names.Goals as goal

pub returns-in_err-put_name : goal.returns-in_err-put_name
returns-in_err-put_name g c =
    let form = form_of (history_of c.args.session.now).now (later_of c.args.session.now) in
    let inside : c.loop-index.index < length form =
    rw c.form_len-index-end.ensures at c.loop-index-test.true in
    names_cut g.W.Write.contents (machine_of c.args.session.now) form c.loop-index.index inside _ _
    _ _ c.from_residual.ensures c.loop-index.invariant
    (rw c.form.ensures at c.in_err-put_name.ensures)

pub loop-index-preserved : goal.loop-index-preserved
loop-index-preserved g c =
    let form = form_of (history_of c.args.session.now).now (later_of c.args.session.now) in
    let inside : c.loop-index.index < length form =
    rw c.form_len-index-end.ensures at c.loop-index-test.true in
    names_sent g.W.Write.contents (machine_of c.args.session.now) form c.loop-index.index inside _ _
    _ c.loop-index.invariant (rw c.form.ensures at c.in_ok-put_name.ensures)
