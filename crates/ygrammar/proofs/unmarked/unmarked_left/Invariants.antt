use Rattle.std.proofs.Common.{◌≡◌, drop, true, not, slice_index_or}
use Rattle.std.specs.List.{find}
use Rattle.ysymbols.specs.Names.{number_in}
use Rattle.ysyntax.specs.TreeViews.{name_view}
use Rattle.ygrammar.proofs.unmarked.unmarked_left.Given as goal

abbrev pub invariant-loop-left : goal.invariant-loop-left
invariant-loop-left l = find
    (λ m. not (slice_index_or l.marks (number_in l.names (name_view m)) true))
    (drop l.left-index l.lefts) ≡ find
    (λ m. not (slice_index_or l.marks (number_in l.names (name_view m)) true)) l.lefts
