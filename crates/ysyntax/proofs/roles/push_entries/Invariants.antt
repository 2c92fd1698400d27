use Rattle.std.proofs.Common.{◌≡◌, ◌++◌, map, drop}
use Rattle.std.specs.List.{flat_map}
use Rattle.ysyntax.specs.TreeViews.{entry_view, word_view}
use Rattle.ysyntax.specs.Roles.{entry_roles}
use Rattle.ysyntax.proofs.roles.push_entries.Given as goal

abbrev pub invariant-loop-entry : goal.invariant-loop-entry
invariant-loop-entry l = l.found.items ++ flat_map (entry_roles (word_view l.word))
    (map entry_view (drop l.entry-index l.entries)) ≡ l.fn.found.items
    ++ flat_map (entry_roles (word_view l.word)) (map entry_view l.entries)
