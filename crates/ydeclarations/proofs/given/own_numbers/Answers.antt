use Rattle.std.proofs.Common.{◌++◌, [], subst, sym, map, List, append-nil}
use Rattle.ydeclarations.specs.Elaboration.{literal_value}
use Rattle.ydeclarations.specs.Owned.{OwnSoFar}
use Rattle.ysyntax.specs.Tree.{Identifier}
use Rattle.ysyntax.specs.TreeViews.{occurrence_view}
use Rattle.ydeclarations.proofs.OwnSteps.{fills_first}
use Rattle.ydeclarations.proofs.given.own_numbers.Goals as goal

pub returns-clause-told : goal.returns-clause-told
returns-clause-told c = λ own s.
    let ns = c.args.tokens.now in
    let d : List Identifier = map occurrence_view c.args.declared.now in
    let u : List Identifier = map occurrence_view c.args.used.now in
    let one = fills_first ns c.args.given.items c.fill.new.table.items c.fill-2.new.table.items
    c.number_in.result c.number_in-2.result (d ++ u) own c.number_in.ensures
    c.number_in-2.ensures c.fill.ensures.exact c.fill-2.ensures.exact s in
    let two = c.fill_literals.ensures.told u own one in
    c.fill_literals-2.ensures.told [] own
    (subst (λ (is : List Identifier). OwnSoFar ns c.fill_literals.new.table.items
    (literal_value is) own) (sym (append-nil u)) two)
