use Rattle.std.proofs.Common.{◌≡◌, drop, not}
use Rattle.std.specs.List.{find}
use Rattle.ysymbols.specs.Names.{is_among}
use Rattle.ydeclarations.specs.Printed.{printed_name}
use Rattle.ysyntax.specs.TreeViews.{occurrence_view}
use Rattle.ygrammar.proofs.checks.first_undefined.Given as goal

abbrev pub invariant-loop-one : goal.invariant-loop-one
invariant-loop-one l = find
    (λ m. not (is_among l.symbols (printed_name (occurrence_view m))))
    (drop l.one-index l.occurrences) ≡ find
    (λ m. not (is_among l.symbols (printed_name (occurrence_view m)))) l.occurrences
