use Rattle.std.proofs.Common.{List, ℕ, Bor, Result, Ok, Err, is_some, map, refl, subst}
use Rattle.ystepper.specs.declared.ending.Ending.{Ending}
use Rattle.ylink.specs.Link.{device_of}
use Rattle.ygenerate.specs.Programs.{Says}
use Rattle.ystepper.specs.Programs.{EndsIn, message}
use Rattle.ygenerate.proofs.Running.{Says-flushed, Says-nothing}
use Rattle.ystepper.proofs.programs.ystep_in.Goals as goal

pub returns-in-Ok : goal.returns-in-Ok
returns-in-Ok g c =
    let messages = g.E.Write.contents in
    let ends = λ (r : g.row.R.Denot) (w : g.row.W.Denot) (ending : Result (Unit {0}) Ending).
    EndsIn g.D.Folder.reads g.D.Folder.unreadable c.args.folder.now c.obey.new.folder
    g.R.Read.remaining g.W.Write.contents r c.obey.new.reader w c.obey.new.writer
    (map (λ (word : Bor (List ℕ)). word.now) c.args.words.now) ending in
    record {
      ending = Ok tt;
      ends = subst (λ (r : g.row.R.Denot). ends r (device_of c.args.writer.now) (Ok tt))
          c.clear.ensures.device (subst (λ (w : g.row.W.Denot).
          ends (device_of c.clear.new.self) w (Ok tt)) c.clear-2.ensures.device c.in-Ok.ensures);
      answers = refl;
      says = Says-nothing messages (device_of c.args.errors.now) c.clear-3.new.self
          c.clear-3.ensures.device;
    }

pub returns-in-Err : goal.returns-in-Err
returns-in-Err g c =
    let messages = g.E.Write.contents in
    let ends = λ (r : g.row.R.Denot) (w : g.row.W.Denot) (ending : Result (Unit {0}) Ending).
    EndsIn g.D.Folder.reads g.D.Folder.unreadable c.args.folder.now c.obey.new.folder
    g.R.Read.remaining g.W.Write.contents r c.obey.new.reader w c.obey.new.writer
    (map (λ (word : Bor (List ℕ)). word.now) c.args.words.now) ending in
    let said : Says messages (device_of c.clear-3.new.self) c.flush.new.self
    (message c.in-Err.ending) =
    Says-flushed messages c.clear-3.new.self c.put.new.link c.flush.new.self
    (is_some c.put.result) c.flush.result (message c.in-Err.ending) c.put.ensures
    c.flush.ensures.bytes c.flush.ensures.failed in
    record {
      ending = Err c.in-Err.ending;
      ends = subst (λ (r : g.row.R.Denot).
          ends r (device_of c.args.writer.now) (Err c.in-Err.ending)) c.clear.ensures.device
          (subst (λ (w : g.row.W.Denot). ends (device_of c.clear.new.self) w (Err c.in-Err.ending))
          c.clear-2.ensures.device c.in-Err.ensures);
      answers = c.status.ensures;
      says = subst (λ (e : g.row.E.Denot). Says messages e c.flush.new.self
          (message c.in-Err.ending)) c.clear-3.ensures.device said;
    }
