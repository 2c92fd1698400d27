use Rattle.std.proofs.Common.{List, ℕ, Bor, Result, Ok, Err, is_some, map, refl, subst}
use Rattle.ygenerate.specs.declared.generator.Done.{Done}
use Rattle.ygenerate.specs.declared.message.Trouble.{Trouble}
use Rattle.ylink.specs.Link.{device_of}
use Rattle.ygenerate.specs.declared.message.Program.TheVariants.{Yacc}
use Rattle.ygenerate.specs.Messages.{message}
use Rattle.ygenerate.specs.Programs.{Says}
use Rattle.ygenerate.specs.Generating.{EndsIn, said_of}
use Rattle.ygenerate.proofs.Running.{Says-flushed}
use Rattle.ygenerate.proofs.generator.yacc_in.Goals as goal

pub returns-in-Ok : goal.returns-in-Ok
returns-in-Ok g c =
    let messages = g.E.Write.contents in
    let ends = λ (w : g.row.W.Denot) (ending : Result Done Trouble). EndsIn g.D.Folder.reads
    g.D.Folder.unreadable g.D.Folder.opens g.D.Folder.unwritable g.D.Folder.closes
    g.D.File.Write.contents c.args.folder.now c.obey.new.folder g.W.Write.contents
    (map (λ (word : Bor (List ℕ)). word.now) c.args.words.now) w c.obey.new.writer ending in
    let said : Says messages (device_of c.clear-2.new.self) c.flush.new.self
    (said_of c.in-Ok.done) =
    Says-flushed messages c.clear-2.new.self c.put.new.link c.flush.new.self
    (is_some c.put.result) c.flush.result (said_of c.in-Ok.done) c.put.ensures
    c.flush.ensures.bytes c.flush.ensures.failed in
    record {
      ending = Ok c.in-Ok.done;
      ends = subst (λ (w : g.row.W.Denot). ends w (Ok c.in-Ok.done)) c.clear.ensures.device
          c.in-Ok.ensures;
      answers = refl;
      says = subst (λ (e : g.row.E.Denot). Says messages e c.flush.new.self (said_of c.in-Ok.done))
          c.clear-2.ensures.device said;
    }

pub returns-in-Err : goal.returns-in-Err
returns-in-Err g c =
    let messages = g.E.Write.contents in
    let ends = λ (w : g.row.W.Denot) (ending : Result Done Trouble). EndsIn g.D.Folder.reads
    g.D.Folder.unreadable g.D.Folder.opens g.D.Folder.unwritable g.D.Folder.closes
    g.D.File.Write.contents c.args.folder.now c.obey.new.folder g.W.Write.contents
    (map (λ (word : Bor (List ℕ)). word.now) c.args.words.now) w c.obey.new.writer ending in
    let said : Says messages (device_of c.clear-2.new.self) c.flush-in-Err.new.self
    (message Yacc c.in-Err.trouble) =
    Says-flushed messages c.clear-2.new.self c.put-in-Err.new.link c.flush-in-Err.new.self
    (is_some c.put-in-Err.result) c.flush-in-Err.result (message Yacc c.in-Err.trouble)
    c.put-in-Err.ensures c.flush-in-Err.ensures.bytes c.flush-in-Err.ensures.failed in
    record {
      ending = Err c.in-Err.trouble;
      ends = subst (λ (w : g.row.W.Denot). ends w (Err c.in-Err.trouble)) c.clear.ensures.device
          c.in-Err.ensures;
      answers = c.status.ensures;
      says = subst (λ (e : g.row.E.Denot). Says messages e c.flush-in-Err.new.self
          (message Yacc c.in-Err.trouble)) c.clear-2.ensures.device said;
    }
