use Rattle.std.proofs.Common.{sym, subst, ap, ◌∙◌}
use Rattle.ysymbols.specs.Grammar.{GrammarValue}
use Rattle.ygrammar.specs.GrammarOf.{IsGrammarOf}
use Rattle.ylalr.specs.Collection.{Collection, HasStates, IsGuide}
use Rattle.ygenerate.proofs.source.tables_over.Goals as goal

pub returns-in-Ok-resolve-clause-tables : goal.returns-in-Ok-resolve-clause-tables
returns-in-Ok-resolve-clause-tables c =
    let built = c.in-Ok-resolve.ensures.automaton in
    let guided = c.states-guide.ensures.guide in
    record {
      grammar = subst (λ (v : GrammarValue). IsGrammarOf c.args.source.now v)
          (sym (ap (λ (m : Collection). m.grammar) built ∙ c.in-Ok-build.ensures.grammar))
          c.in-Ok.ensures.found;
      states = subst (λ (m : Collection). HasStates m) (sym built) c.in-Ok-build.ensures.states;
      cells = c.in-Ok-resolve.ensures.tables;
      guide = guided.0;
      guides = subst (λ (m : Collection). IsGuide m guided.0) (sym built) guided.1;
    }
