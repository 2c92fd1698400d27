use Rattle.std.proofs.Common.{◌≡◌, ◌++◌, map, drop}
use Rattle.ysyntax.specs.TreeViews.{body_part_view}
use Rattle.ysyntax.specs.Roles.{body_role}
use Rattle.ysyntax.proofs.roles.push_body.Given as goal

abbrev pub invariant-loop-part : goal.invariant-loop-part
invariant-loop-part l = l.found.items ++ map (body_role l.rule)
    (map body_part_view (drop l.part-index l.body)) ≡ l.fn.found.items ++ map (body_role l.rule)
    (map body_part_view l.body)
