use Rattle.std.proofs.Common.{◌≡◌, ◌∙◌, length, ap, sym}
use Rattle.std.proofs.lemmas.List.{length-map}
use Rattle.ylexemes.specs.Views.{lexeme_view}
use Rattle.ysyntax.specs.declared.lexer.Placed.{Placed}
use Rattle.ysyntax.specs.TreeViews.{tree_view}
use Rattle.ysyntax.proofs.Lengths.{length-roles}
use Rattle.ysyntax.proofs.map.map_of.Goals as goal

pub joined-requires : goal.joined-requires
joined-requires c =
    sym (length-map c.args.lexemes.now (λ (p : Placed). lexeme_view p.lexeme))
    ∙ ap length c.requires ∙ sym (length-roles (tree_view c.args.tree.now))
    ∙ sym (ap length c.in_ok-roles.ensures) ∙ sym (ap length c.deref.ensures.value)
