use Rattle.std.proofs.Common.{◌≡◌, ◌++◌, replicate}
use Rattle.ysyntax.proofs.roles.push_many.Given as goal

abbrev pub invariant-loop-turn : goal.invariant-loop-turn
invariant-loop-turn l = l.found.items ≡ l.fn.found.items ++ replicate l._turn l.role
