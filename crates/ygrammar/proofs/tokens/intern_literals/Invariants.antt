use Rattle.std.proofs.Common.{◌≡◌, map, drop}
use Rattle.ysyntax.specs.TreeViews.{occurrence_view}
use Rattle.std.specs.Prelude.{filter}
use Rattle.ysymbols.specs.Names.{with_names}
use Rattle.ydeclarations.specs.Printed.{printed_name}
use Rattle.ydeclarations.specs.Elaboration.{is_literal}
use Rattle.ygrammar.proofs.tokens.intern_literals.Given as goal

abbrev pub invariant-loop-occurrence : goal.invariant-loop-occurrence
invariant-loop-occurrence l = with_names l.names
    (map printed_name (filter is_literal (map occurrence_view (drop l.occurrence-index
    l.occurrences))))
    ≡
    with_names l.fn.names
    (map printed_name (filter is_literal (map occurrence_view l.occurrences)))
