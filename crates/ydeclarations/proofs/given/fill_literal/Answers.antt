use Rattle.std.proofs.Common.{subst, ap, ◌∙◌, ◌∷◌}
use Rattle.ysyntax.specs.declared.tree.Identifier.{Identifier as CodeIdentifier}
use Rattle.ydeclarations.specs.Elaboration.{literal_value}
use Rattle.ysymbols.specs.Names.{number_in}
use Rattle.ydeclarations.specs.Printed.{printed_name}
use Rattle.ydeclarations.specs.Owned.{OwnSoFar, with_number}
use Rattle.ysyntax.specs.TreeViews.{identifier_view}
use Rattle.ydeclarations.proofs.OwnSteps.{fills_literal}
use Rattle.ydeclarations.proofs.given.fill_literal.Goals as goal

pub returns-in-Quoted-clause-told : goal.returns-in-Quoted-clause-told
returns-in-Quoted-clause-told c = λ rest own s.
    fills_literal c.args.tokens.now c.args.table.now.items c.fill.new.table.items
    c.number_of.result c.in-Quoted.value rest own
    (c.number_of.ensures ∙ ap (λ (w : CodeIdentifier). number_in c.args.tokens.now
    (printed_name (identifier_view w))) c.in-Quoted.is)
    (c.fill.ensures.exact ∙ ap (with_number c.args.table.now.items c.number_of.result)
    c.from.ensures)
    (subst (λ (w : CodeIdentifier). OwnSoFar c.args.tokens.now c.args.table.now.items
    (literal_value (identifier_view w ∷ rest)) own) c.in-Quoted.is s)
