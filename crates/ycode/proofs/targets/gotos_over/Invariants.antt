use Rattle.std.proofs.Common.{◌≡◌, ◌+◌, map}
use Rattle.std.specs.List.{range_with_len}
use Rattle.ylalr.specs.Collection.{goto_in}
use Rattle.ycode.specs.Cells.{tokens_of}
use Rattle.ycode.proofs.targets.gotos_over.Given as goal

abbrev pub invariant-loop-q : goal.invariant-loop-q
invariant-loop-q l = l.gotos.items ≡
    map (λ q. goto_in l.tables.built q (tokens_of l.tables + l.x)) (range_with_len 0 l.q)
