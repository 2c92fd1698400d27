use Rattle.std.proofs.Common.{◌≡◌, ◌++◌, map, drop}
use Rattle.ysyntax.specs.TreeViews.{name_view}
use Rattle.ydeclarations.proofs.outline.push_names.Given as goal

abbrev pub invariant-loop-name : goal.invariant-loop-name
invariant-loop-name l = record {
  names : map name_view l.found.items ++ map name_view (drop l.name-index l.names) ≡
      map name_view l.fn.found.items ++ map name_view l.names;
  all : l.found.items ++ drop l.name-index l.names ≡ l.fn.found.items ++ l.names;
}
