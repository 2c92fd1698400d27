use Rattle.std.proofs.Common.{ℕ, List, sym, subst}
use Rattle.ymachine.specs.Machine.{Machine}
use Rattle.ymachine.specs.History.{History}
use Rattle.ymachine.specs.Headline.{IsMachineOf}
use Rattle.ymachine.specs.Rightmost.{UnwindsRight}
use Rattle.ytokens.specs.Tokens.{symbols_of}
use Rattle.ystepper.specs.declared.stepper.StepperFault.{StepperFault}
use Rattle.ystepper.specs.declared.stepper.StepperFault.TheVariants as starts
use Rattle.ystepper.specs.Headline.{LacksTokens, StartFails}
use Rattle.ystepper.proofs.stepper.session_from.Goals as goal

module _ {D : Type 0} (reads : D → List ℕ → List ℕ → D → Type 0)
    (unreadable : D → List ℕ → Type 0) (grammar tokens : List ℕ) (old new : D) where
  lacks : (fault : StepperFault) → LacksTokens reads unreadable grammar tokens old new fault
      → StartFails reads unreadable grammar tokens old new fault
  lacks (starts.Source fault) is = absurd is.fails
  lacks starts.Unread is = is
  lacks starts.NoRoom is = is
  lacks (starts.Tokens fault) is = is
  lacks (starts.Session fault) is = is

pub returns-in-Ok-tokens_from-clause-starts : goal.returns-in-Ok-tokens_from-clause-starts
returns-in-Ok-tokens_from-clause-starts g c =
    let t = c.in-Ok.tables in
    let v = t.built.grammar in
    let symbols = symbols_of c.in-Ok-tokens_from.tokens in
    let found = c.in-Ok.ensures.tables in
    let named = c.in-Ok-tokens_from.ensures.tokens in
    record {
      source = found.source;
      between = c.tables_from.new.folder;
      told = found.read;
      text = named.text;
      names = named.read;
      begins = record {
        tables = t;
        are = found.are;
        machine = c.new.ensures.machine;
        parses = record {
          goes = subst (λ (m : Machine). IsMachineOf v m) (sym c.new.ensures.machine)
              c.new.ensures.goes;
          symbols = symbols;
          names = named.names;
          first = c.new.ensures.history;
          derives = λ (later : History).
              subst (λ (m : Machine). UnwindsRight v.bare m symbols later)
              (sym c.new.ensures.machine) (c.new.ensures.derives later);
        };
      };
    }

pub returns-in-Err-tokens_from-clause-fails : goal.returns-in-Err-tokens_from-clause-fails
returns-in-Err-tokens_from-clause-fails g c =
    lacks g.D.Folder.reads g.D.Folder.unreadable c.args.grammar.now c.args.tokens.now
    c.args.folder.now c.tokens_from.new.folder c.in-Err-tokens_from.fault (record {
      between = c.tables_from.new.folder;
      tables = c.in-Ok.tables;
      has = c.in-Ok.ensures.tables;
      fails = c.in-Err-tokens_from.ensures.fails;
    })
