use Rattle.std.proofs.Common.{subst, ap, ◌∙◌}
use Rattle.ylalr.specs.Collection.{Collection}
use Rattle.ysymbols.specs.Grammar.{GrammarValue}
use Rattle.ytokens.specs.Reading.{Gives}
use Rattle.ytokens.proofs.OneOutcome.{agrees}
use Rattle.ytokens.proofs.tokens.read_tokens.Goals as goal

pub returns-clause-only : goal.returns-clause-only
returns-clause-only c =
    agrees c.args.tables.now.built.grammar c.args.bytes.now c.read_all.result
    (subst (λ (v : GrammarValue). Gives v c.args.bytes.now c.read_all.result)
    (c.grammar.ensures ∙ ap (λ (a : Collection). a.grammar) c.automaton.ensures.value)
    c.read_all.ensures.exact)
