use Rattle.std.proofs.Common.{◌≡◌, ◌++◌, map, drop}
use Rattle.std.specs.List.{flat_map}
use Rattle.ysyntax.specs.TreeViews.{definition_view}
use Rattle.ysyntax.specs.Roles.{definition_roles}
use Rattle.ysyntax.proofs.roles.push_definitions.Given as goal

abbrev pub invariant-loop-definition : goal.invariant-loop-definition
invariant-loop-definition l = l.found.items ++ flat_map definition_roles
    (map definition_view (drop l.definition-index l.definitions)) ≡ l.fn.found.items
    ++ flat_map definition_roles (map definition_view l.definitions)
