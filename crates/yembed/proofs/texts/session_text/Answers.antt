use Rattle.ysession.specs.Session.{machine_of, history_of}
use Rattle.ystepper.proofs.Histories.{reaches_histories}
use Rattle.yembed.proofs.texts.session_text.Goals as goal

pub returns-in-Some-clause-text : goal.returns-in-Some-clause-text
returns-in-Some-clause-text c =
    let session = c.in-Ok.session in
    let begins = c.in-Ok.ensures.begins in
    record {
      machine = machine_of session;
      history = history_of session;
      begins = begins;
      plain = c.in-Some.ensures.plain;
      reached = reaches_histories begins.tables.built.grammar c.args.tokens.now
          (machine_of session) (history_of session) begins.parses;
      replied = c.in-Some.ensures.replies;
    }
