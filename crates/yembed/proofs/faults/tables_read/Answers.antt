use Rattle.std.proofs.Common.{Ok, sym, subst, ap, ◌∙◌}
use Rattle.ysymbols.specs.Grammar.{GrammarValue}
use Rattle.ygrammar.specs.GrammarOf.{IsGrammarOf}
use Rattle.ylalr.specs.Collection.{Collection, HasStates, IsGuide}
use Rattle.yembed.specs.Faults.{IsRead}
use Rattle.yembed.proofs.faults.tables_read.Goals as goal

pub returns-in-Ok-resolve-clause-tables : goal.returns-in-Ok-resolve-clause-tables
returns-in-Ok-resolve-clause-tables c =
    let source = c.args.source.now in
    let built = c.in-Ok-resolve.ensures.automaton in
    let guided = c.states-guide.ensures.guide in
    let same = sym (ap (λ (m : Collection). m.grammar) built ∙ c.in-Ok-build.ensures.grammar) in
    let read = c.in-Ok.ensures in
    record {
      read = subst (λ (v : GrammarValue). IsRead source (Ok v)) same (record {
        long = read.too_long;
        found = read.found;
        only = read.only;
        refused = read.refused;
        mistaken = read.mistaken;
        fault = read.fault;
        line = read.line;
      });
      are = record {
        grammar = subst (λ (v : GrammarValue). IsGrammarOf source v) same read.found;
        states = subst (λ (m : Collection). HasStates m) (sym built) c.in-Ok-build.ensures.states;
        cells = c.in-Ok-resolve.ensures.tables;
        guide = guided.0;
        guides = subst (λ (m : Collection). IsGuide m guided.0) (sym built) guided.1;
      };
    }
