use Rattle.ytokens.specs.Tokens.{symbols_of}
use Rattle.yembed.proofs.Exact.{exact_of}
use Rattle.yembed.proofs.verdicts.judgement.Goals as goal

pub returns-in-Ok-verdict-clause-judged : goal.returns-in-Ok-verdict-clause-judged
returns-in-Ok-verdict-clause-judged c =
    let t = c.in-Ok.tables in
    let says = c.in-Ok-verdict.ensures in
    record {
      tables = t;
      are = c.in-Ok.ensures.tables;
      symbols = symbols_of c.in-Ok-read_tokens.tokens;
      names = c.in-Ok-read_tokens.ensures.exact;
      verdict = c.in-Ok-verdict.verdict;
      told = c.told.ensures.told;
      choice = exact_of c.choice_free-choice_free.result t.choice c.told.result.exact
          c.choice_free-choice_free.ensures.value c.told.ensures.exact;
      machine = says.machine;
      steps = says.verdict;
      sound = says.sound;
      complete = says.complete;
      exact = says.exact;
    }
