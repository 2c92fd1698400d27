use Rattle.std.proofs.Common.{ap, arith}
use Rattle.ysymbols.specs.Grammar.{GrammarValue}
use Rattle.ytables.proofs.report.put_rule_or_actions.Goals as goal

pub returns-in-None : goal.returns-in-None
returns-in-None g c = rw (← c.in-None.ensures.value) (c.put_lines.ensures tt
    c.args.tables.now.built.grammar.bare.tokens
    (omega (arith, ap (λ (v : GrammarValue). v.bare.tokens) c.grammar.ensures)))
