use Rattle.std.proofs.Common.{◌≡◌, ◌++◌, ◌∷◌, ◌∙◌, IsSome, subst}
use Rattle.ylexemes.specs.declared.kind.Sign.TheVariants.{Prec}
use Rattle.ysyntax.specs.declared.recogniser.State.TheVariants.{Body, Semicolons}
use Rattle.ysyntax.specs.Answers.{views}
use Rattle.ylexemes.specs.Lexemes.{fixed}
use Rattle.ysyntax.specs.Tree.{end_yield}
use Rattle.ysyntax.specs.TreeViews.{braced_view, occurrence_view}
use Rattle.ysymbols.specs.Sources.{option_view}
use Rattle.ysyntax.proofs.TreeSteps.{Goes, no_precedence, precedence_taken}
use Rattle.ysyntax.proofs.tree_builder.TreeBuilder.precedence.Goals.{After-text-last}
use Rattle.ysyntax.proofs.tree_builder.TreeBuilder.precedence.Goals as goal

-- the precedence that stands there, and what goes on after it
taken : (c : After-text-last) →
    let i = option_view occurrence_view c.occurrence-symbol.result in
    let t = option_view braced_view c.text-last.result in
    (fixed Prec ∷ views c.sign.new.self ≡ end_yield i t 0 ++ views c.text-last.new.self)
    × IsSome i × Goes Semicolons (views c.text-last.new.self)
taken c = precedence_taken _ _ (views c.sign.new.self) (views c.occurrence-symbol.new.self) _
    (subst (Goes Body) c.if-not-sign.ensures.taken c.requires.goes_on)
    c.occurrence-symbol.ensures.taken c.text-last.ensures.taken

pub returns-then-not-sign-clause-goes_on : goal.returns-then-not-sign-clause-goes_on
returns-then-not-sign-clause-goes_on c = subst (Goes Semicolons) c.if-not-sign.ensures.taken.1
    (no_precedence (views c.args.self.now) c.requires.goes_on c.requires.ended
    c.if-not-sign.ensures.taken.0)

pub returns-then-not-sign-clause-stands : goal.returns-then-not-sign-clause-stands
returns-then-not-sign-clause-stands c = λ source h. (tt, c.if-not-sign.ensures.stands source h)

pub returns-clause-whole : goal.returns-clause-whole
returns-clause-whole c =
    c.if-not-sign.ensures.taken ∙ (taken (goal.at.returns-clause-whole c).After-text-last).0

pub returns-clause-shaped : goal.returns-clause-shaped
returns-clause-shaped c = λ _. (taken (goal.at.returns-clause-shaped c).After-text-last).1

pub returns-clause-goes_on : goal.returns-clause-goes_on
returns-clause-goes_on c = (taken (goal.at.returns-clause-goes_on c).After-text-last).2

pub returns-clause-stands : goal.returns-clause-stands
returns-clause-stands c = λ source h.
    c.text-last.ensures.stands source
    (c.occurrence-symbol.ensures.stands source (c.if-not-sign.ensures.stands source h))
