use Rattle.std.proofs.Common.{◌≡◌, ◌++◌, drop, filter, map, true, not, slice_index_or}
use Rattle.ysymbols.specs.Names.{number_in}
use Rattle.ysyntax.specs.TreeViews.{name_view}
use Rattle.ygrammar.proofs.unmarked.unmarked_lefts.Given as goal

abbrev pub invariant-loop-left : goal.invariant-loop-left
invariant-loop-left l = l.places.items ++ map (λ m. m.at) (filter
    (λ m. not (slice_index_or l.marks (number_in l.names (name_view m)) true))
    (drop l.left-index l.lefts)) ≡ map (λ m. m.at) (filter
    (λ m. not (slice_index_or l.marks (number_in l.names (name_view m)) true)) l.lefts)
