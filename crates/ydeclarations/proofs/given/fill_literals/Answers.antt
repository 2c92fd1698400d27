use Rattle.std.proofs.Common.{◌<◌, ◌≡◌, [], drop, length, subst, arith, map, ◌++◌, List}
use Rattle.std.proofs.lemmas.List.{drop_more}
use Rattle.ydeclarations.proofs.OwnSteps.{take_none}
use Rattle.ysyntax.specs.declared.tree.Occurrence.{Occurrence}
use Rattle.ydeclarations.specs.Elaboration.{literal_value}
use Rattle.ydeclarations.specs.Owned.{OwnSoFar}
use Rattle.ysyntax.specs.TreeViews.{occurrence_view}
use Rattle.ydeclarations.proofs.given.fill_literals.Goals as goal

pub loop-occurrence-preserved : goal.loop-occurrence-preserved
loop-occurrence-preserved c = record {
  small = λ a. c.fill_literal.ensures.small (c.loop-occurrence.invariant.small a);
  told = λ more own s.
      let xs = c.args.occurrences.now in
      let i = c.loop-occurrence.occurrence-index in
      let h : i < length xs = omega arith in
      c.fill_literal.ensures.told _ own
      (subst (λ (ys : List Occurrence). OwnSoFar c.args.tokens.now
      c.loop-occurrence.table.items (literal_value (map occurrence_view ys ++ more)) own)
      (drop_more xs i _ h) (c.loop-occurrence.invariant.told more own s));
}

pub returns-clause-told : goal.returns-clause-told
returns-clause-told c = λ more own s.
    let xs = c.args.occurrences.now in
    let i = c.loop-occurrence.occurrence-index in
    let e : drop i xs ≡ [] = take_none xs i c.loop-occurrence-test.false in
    subst (λ (ys : List Occurrence). OwnSoFar c.args.tokens.now
    c.loop-occurrence.table.items
    (literal_value (map occurrence_view ys ++ more)) own) e
    (c.loop-occurrence.invariant.told more own s)
