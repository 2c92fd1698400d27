use Rattle.std.proofs.Common.{◌≡◌, [], vec_len}
use Rattle.std.specs.List.{All}
use Rattle.ybitsets.proofs.links.Links.new.Given as goal

abbrev pub invariant-loop : goal.invariant-loop
invariant-loop l = record {
  sized : vec_len l.lists ≡ l.counter;
  empty : All (λ r. r ≡ []) l.lists.items;
}
