use Rattle.std.proofs.Common.{◌++◌, [], ◌∷◌, List, map, codes}
use Rattle.std.proofs.lemmas.Result.{IfOk-weaker}
use Rattle.ydeclarations.specs.Elaboration.{token_names_of}
use Rattle.ydeclarations.specs.Outline.{listed_view}
use Rattle.ysyntax.specs.Tree.{Identifier}
use Rattle.ysyntax.specs.TreeViews.{occurrence_view}
use Rattle.ygrammar.proofs.NotingSteps.{tokens_noted}
use Rattle.ygrammar.proofs.tokens.tokens.Goals as goal

pub returns : goal.returns
returns c =
    let ids : List Identifier = map occurrence_view c.args.outline.now.declared.items
    ++ map occurrence_view c.args.outline.now.used.items in
    IfOk-weaker c.tokens_among-tokens.result _ _ (λ v among. tokens_noted
    (token_names_of (map listed_view c.args.outline.now.listed.items) ids)
    (codes "$end" ∷ codes "error" ∷ []) c.in_ok-names.names v ids
    c.in_ok-names.ensures among) c.tokens_among-tokens.ensures
