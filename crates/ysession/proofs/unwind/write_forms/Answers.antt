use Rattle.std.proofs.Common.{List, ℕ, Option, subst, is_some}
use Rattle.ylink.specs.Link.{device_of}
use Rattle.ymachine.specs.History.{History}
use Rattle.ysession.specs.Session.{Setting, machine_of, history_of}
use Rattle.ysession.specs.Unwound.{GoesBack}
use Rattle.ysession.proofs.unwind.write_forms.Goals as goal

pub returns-clause-forms : goal.returns-clause-forms
returns-clause-forms g c =
    let w = g.W.Write.contents in
    let a : Option (List ℕ) = w (device_of c.args.link.now) in
    let known : Option (List ℕ) = w (device_of c.put_forms.new.link) in
    let new : History = history_of c.put_forms.new.session in
    let e = c.forget_later.ensures in
    subst (λ (h : History). GoesBack a known (machine_of c.args.session.now) h
    (is_some c.put_forms.result) new) e.history
    (subst (λ (s : Setting). GoesBack a known s.machine (history_of c.forget_later.new.self)
    (is_some c.put_forms.result) new) e.setting c.put_forms.ensures.forms)
