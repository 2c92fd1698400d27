use Rattle.std.proofs.Common.{ap, ◌∙◌, map, List}
use Rattle.ydeclarations.specs.declared.outline.Listed.{Listed}
use Rattle.ydeclarations.specs.Outline.{listed_view}
use Rattle.ydeclarations.proofs.GivenTables.{precedes}
use Rattle.ydeclarations.proofs.SecondSteps.{precedences_placed}
use Rattle.ydeclarations.proofs.given.precedences.Goals as goal

pub returns-clause-told : goal.returns-clause-told
returns-clause-told c = λ t o e. precedes t (map listed_view c.deref.result.now) c.args.tokens.now
    c.told_precedences.result (ap (λ (xs : List Listed). map listed_view xs) c.deref.ensures.value ∙
    o.listed) e c.told_precedences.ensures.told

pub returns-clause-place : goal.returns-clause-place
returns-clause-place c = λ t ds rs o sites e.
    precedences_placed t c.args.outline.now ds rs c.args.tokens.now c.deref.result.now
    c.told_precedences.result o sites e c.deref.ensures.value c.told_precedences.ensures.place
    (precedes t (map listed_view c.deref.result.now) c.args.tokens.now
    c.told_precedences.result (ap (λ (xs : List Listed). map listed_view xs)
    c.deref.ensures.value ∙ o.listed) e c.told_precedences.ensures.told)
