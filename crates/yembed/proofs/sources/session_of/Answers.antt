use Rattle.std.proofs.Common.{sym, subst}
use Rattle.ymachine.specs.Machine.{Machine}
use Rattle.ymachine.specs.History.{History}
use Rattle.ymachine.specs.Headline.{IsMachineOf}
use Rattle.ymachine.specs.Rightmost.{UnwindsRight}
use Rattle.ytokens.specs.Tokens.{symbols_of}
use Rattle.yembed.proofs.sources.session_of.Goals as goal

pub returns-in-Ok-read_tokens-clause-begins : goal.returns-in-Ok-read_tokens-clause-begins
returns-in-Ok-read_tokens-clause-begins c =
    let t = c.in-Ok.tables in
    let v = t.built.grammar in
    let symbols = symbols_of c.in-Ok-read_tokens.tokens in
    record {
      tables = t;
      are = c.in-Ok.ensures.tables;
      machine = c.new.ensures.machine;
      parses = record {
        goes = subst (λ (m : Machine). IsMachineOf v m) (sym c.new.ensures.machine)
            c.new.ensures.goes;
        symbols = symbols;
        names = c.in-Ok-read_tokens.ensures.exact;
        first = c.new.ensures.history;
        derives = λ (later : History).
            subst (λ (m : Machine). UnwindsRight v.bare m symbols later)
            (sym c.new.ensures.machine) (c.new.ensures.derives later);
      };
    }
