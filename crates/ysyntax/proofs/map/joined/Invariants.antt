use Rattle.std.proofs.Common.{◌≡◌, take}
use Rattle.ysyntax.specs.Map.{placed_of, roles_in}
use Rattle.ysyntax.proofs.map.joined.Given as goal

abbrev pub invariant-loop-index : goal.invariant-loop-index
invariant-loop-index l = record {
  lexemes : placed_of l.marks.items ≡ take l.index l.lexemes;
  roles : roles_in l.marks.items ≡ take l.index l.roles;
}
