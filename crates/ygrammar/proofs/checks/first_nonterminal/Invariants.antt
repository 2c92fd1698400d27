use Rattle.std.proofs.Common.{◌≡◌, drop, length}
use Rattle.std.specs.List.{find}
use Rattle.ysymbols.specs.Names.{number_in}
use Rattle.ydeclarations.specs.Printed.{printed_name}
use Rattle.ygrammar.specs.Numbered.{is_between}
use Rattle.ysyntax.specs.TreeViews.{occurrence_view}
use Rattle.ygrammar.proofs.checks.first_nonterminal.Given as goal

abbrev pub invariant-loop-one : goal.invariant-loop-one
invariant-loop-one l = find (λ m. is_between l.tokens (length l.symbols)
    (number_in l.symbols (printed_name (occurrence_view m))))
    (drop l.one-index l.occurrences) ≡ find (λ m. is_between l.tokens (length l.symbols)
    (number_in l.symbols (printed_name (occurrence_view m)))) l.occurrences
