use Rattle.std.proofs.Common.{◌≡◌, map, drop}
use Rattle.ysyntax.specs.TreeViews.{occurrence_view}
use Rattle.std.specs.Prelude.{filter}
use Rattle.ysymbols.specs.Names.{is_among, with_names}
use Rattle.ydeclarations.specs.Printed.{printed_name}
use Rattle.ygrammar.proofs.tokens.intern_those.Given as goal

abbrev pub invariant-loop-occurrence : goal.invariant-loop-occurrence
invariant-loop-occurrence l = with_names l.tokens (filter (is_among l.names)
    (map printed_name (map occurrence_view (drop l.occurrence-index l.occurrences)))) ≡ with_names
    l.fn.tokens (filter (is_among l.names)
    (map printed_name (map occurrence_view l.occurrences)))
