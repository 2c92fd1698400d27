-- The recogniser has a state after exactly the lists that begin a grammar file.
use Rattle.std.proofs.Common.{◌≡◌, List, [], ◌∷◌, ◌++◌, Some, None, true, false, refl, ap, ◌∙◌}
use Rattle.ylexemes.specs.declared.kind.Kind.{Kind}
use Rattle.ylexemes.specs.declared.kind.Kind.TheVariants as kind
use Rattle.ysyntax.specs.declared.recogniser.State.{State}
use Rattle.ysyntax.specs.declared.recogniser.State.TheVariants.{Declarations, StartWord}
use Rattle.ysyntax.specs.declared.recogniser.State.TheVariants.{UnionWord}
use Rattle.ysyntax.specs.declared.recogniser.State.TheVariants.{ListWord, ListTagOpen}
use Rattle.ysyntax.specs.declared.recogniser.State.TheVariants.{ListTagName}
use Rattle.ysyntax.specs.declared.recogniser.State.TheVariants.{ListTagged, Listed}
use Rattle.ysyntax.specs.declared.recogniser.State.TheVariants.{Numbered}
use Rattle.ysyntax.specs.declared.recogniser.State.TheVariants.{TypeWord, TypeTagOpen}
use Rattle.ysyntax.specs.declared.recogniser.State.TheVariants.{TypeTagName}
use Rattle.ysyntax.specs.declared.recogniser.State.TheVariants.{TypeTagged, Typed}
use Rattle.ysyntax.specs.declared.recogniser.State.TheVariants.{RulesMark, Body}
use Rattle.ysyntax.specs.declared.recogniser.State.TheVariants.{PrecWord, PrecNamed}
use Rattle.ysyntax.specs.declared.recogniser.State.TheVariants.{Semicolons}
use Rattle.ysyntax.specs.declared.recogniser.State.TheVariants.{End}
use Rattle.ysyntax.specs.Syntax.{BeginsSpec}
use Rattle.ysyntax.specs.Recogniser.{state_after, is_final_at, run}
use Rattle.ysyntax.proofs.Accepted.{lost, state_after_append, recognised}
use Rattle.ysyntax.proofs.Shapes.{derived}

-- kinds that lead from a state to the end of a file
completion : State → List Kind
completion Declarations = kind.Mark ∷ kind.CIdentifier ∷ []
completion StartWord = kind.Name ∷ kind.Mark ∷ kind.CIdentifier ∷ []
completion UnionWord = kind.Braced ∷ kind.Mark ∷ kind.CIdentifier ∷ []
completion ListWord = kind.Name ∷ kind.Mark ∷ kind.CIdentifier ∷ []
completion ListTagOpen = kind.Name ∷ kind.Greater ∷ kind.Name ∷ kind.Mark ∷ kind.CIdentifier ∷ []
completion ListTagName = kind.Greater ∷ kind.Name ∷ kind.Mark ∷ kind.CIdentifier ∷ []
completion ListTagged = kind.Name ∷ kind.Mark ∷ kind.CIdentifier ∷ []
completion TypeWord = kind.Less ∷ kind.Name ∷ kind.Greater ∷ kind.Name ∷ kind.Mark ∷
    kind.CIdentifier ∷ []
completion TypeTagOpen = kind.Name ∷ kind.Greater ∷ kind.Name ∷ kind.Mark ∷ kind.CIdentifier ∷ []
completion TypeTagName = kind.Greater ∷ kind.Name ∷ kind.Mark ∷ kind.CIdentifier ∷ []
completion TypeTagged = kind.Name ∷ kind.Mark ∷ kind.CIdentifier ∷ []
completion RulesMark = kind.CIdentifier ∷ []
completion PrecWord = kind.Name ∷ []
completion Listed = kind.Mark ∷ kind.CIdentifier ∷ []
completion Numbered = kind.Mark ∷ kind.CIdentifier ∷ []
completion Typed = kind.Mark ∷ kind.CIdentifier ∷ []
completion Body = []
completion PrecNamed = []
completion Semicolons = []
completion End = []

completed : (q : State) → run q (completion q) ≡ true
unfolding completion
completed Declarations = refl
completed StartWord = refl
completed UnionWord = refl
completed ListWord = refl
completed ListTagOpen = refl
completed ListTagName = refl
completed ListTagged = refl
completed Listed = refl
completed Numbered = refl
completed TypeWord = refl
completed TypeTagOpen = refl
completed TypeTagName = refl
completed TypeTagged = refl
completed Typed = refl
completed RulesMark = refl
completed Body = refl
completed PrecWord = refl
completed PrecNamed = refl
completed Semicolons = refl
completed End = refl

pub viable : (ks : List Kind) (q : State) → state_after (Some Declarations) ks ≡ Some q → BeginsSpec
    ks
viable ks q e = (
  completion q,
  derived (ks ++ completion q)
      (ap is_final_at (state_after_append (Some Declarations) ks (completion q) ∙ ap
      (λ o. state_after o (completion q)) e) ∙ completed q),
)

pub not_viable : (ks : List Kind) → state_after (Some Declarations) ks ≡ None → BeginsSpec ks → ⊥
not_viable ks e (more, d) =
    let accepted : is_final_at (state_after (Some Declarations) (ks ++ more)) ≡ true =
    recognised (ks ++ more) d in
    let nowhere : is_final_at (state_after (Some Declarations) (ks ++ more)) ≡ false = ap
    is_final_at
    (state_after_append (Some Declarations) ks more ∙ ap (λ o. state_after o more) e ∙ lost more) in
    cc
