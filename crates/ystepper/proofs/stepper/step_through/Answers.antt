use Rattle.std.proofs.Common.{ℕ, ◌≡◌, ◌<◌, ◌^◌, List, Option, Result, Ok, Err, length, IfSome}
use Rattle.std.proofs.Common.{subst}
use Rattle.ylink.specs.declared.link.Link.{Link}
use Rattle.ylink.specs.Link.{device_of}
use Rattle.ymachine.specs.Machine.{Machine}
use Rattle.ymachine.specs.History.{History}
use Rattle.ysession.specs.Session.{machine_of, history_of}
use Rattle.ystepper.specs.declared.fault.SessionFault.{SessionFault}
use Rattle.ystepper.specs.Headline.{Served, Starts}
use Rattle.ystepper.specs.Plain.{HasOneText}
use Rattle.ystepper.specs.Transcript.{Tells}
use Rattle.ystepper.proofs.Histories.{reaches_histories}
use Rattle.ystepper.proofs.stepper.step_through.Goals as goal

module _ {D : Type 0} (reads : D → List ℕ → List ℕ → D → Type 0)
    (unreadable : D → List ℕ → Type 0) (grammar tokens : List ℕ) (old new : D) {R W : Type 0}
    (remaining : R → Option (List ℕ)) (contents : W → Option (List ℕ)) where
  -- a session was served from such a start, between links that were cleared
  served : (m : Machine) (h : History) (r cleared : R) (reader : Link R) (w clear : W)
      (writer : Link W) (ending : Result (Unit {0}) SessionFault) → Starts reads grammar tokens old new m h
      → ((lines : List (List ℕ)) → HasOneText m h lines) → cleared ≡ r → clear ≡ w
      → IfSome (remaining cleared) (λ input. length input < 2 ^ 63
      → Tells m h input (remaining (device_of reader)) (contents clear)
      (contents (device_of writer)) ending)
      → Served reads unreadable grammar tokens old new remaining contents r reader w writer ending
  served m h r cleared reader w clear writer ending starts plain e f told =
      record {
        machine = m;
        history = h;
        starts = starts;
        plain = plain;
        reached = reaches_histories starts.begins.tables.built.grammar starts.text m h
            starts.begins.parses;
        tells = subst (λ (x : R). IfSome (remaining x) (λ input. length input < 2 ^ 63
            → Tells m h input (remaining (device_of reader)) (contents w)
            (contents (device_of writer)) ending)) e
            (subst (λ (x : W). IfSome (remaining cleared) (λ input. length input < 2 ^ 63
            → Tells m h input (remaining (device_of reader)) (contents x)
            (contents (device_of writer)) ending)) f told);
      }

pub returns-in-Ok-run_session-clause-ends : goal.returns-in-Ok-run_session-clause-ends
returns-in-Ok-run_session-clause-ends g c =
    let session = c.in-Ok.session in
    served g.D.Folder.reads g.D.Folder.unreadable c.args.grammar.now c.args.tokens.now c.args.folder.now
    c.session_from.new.folder g.R.Read.remaining g.W.Write.contents (machine_of session) (history_of session) _
    _ c.run_session.new.reader _ _ c.run_session.new.writer (Ok tt) c.in-Ok.ensures.starts
    c.in-Ok-run_session.ensures.plain c.clear.ensures.device c.clear-2.ensures.device
    c.in-Ok-run_session.ensures.tells

pub returns-in-Err-run_session-clause-ends : goal.returns-in-Err-run_session-clause-ends
returns-in-Err-run_session-clause-ends g c =
    let session = c.in-Ok.session in
    served g.D.Folder.reads g.D.Folder.unreadable c.args.grammar.now c.args.tokens.now c.args.folder.now
    c.session_from.new.folder g.R.Read.remaining g.W.Write.contents (machine_of session) (history_of session) _
    _ c.run_session.new.reader _ _ c.run_session.new.writer (Err c.in-Err-run_session.fault)
    c.in-Ok.ensures.starts c.in-Err-run_session.ensures.plain c.clear.ensures.device
    c.clear-2.ensures.device c.in-Err-run_session.ensures.tells
