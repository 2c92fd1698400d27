use Rattle.std.proofs.Common.{◌≡◌, ◌++◌, map, drop}
use Rattle.ydeclarations.specs.Elaboration.{who_of}
use Rattle.ysyntax.specs.TreeViews.{entry_view, occurrence_view}
use Rattle.ydeclarations.proofs.outline.push_entries.Given as goal

abbrev pub invariant-loop-entry : goal.invariant-loop-entry
invariant-loop-entry l = map occurrence_view l.found.items ++ map who_of
    (map entry_view (drop l.entry-index l.entries)) ≡ map occurrence_view l.fn.found.items ++ map
    who_of (map entry_view l.entries)
