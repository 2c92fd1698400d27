use Rattle.std.proofs.Common.{◌≡◌, fold, drop, Some, nat_lt}
use Rattle.std.specs.Prelude.{if◌then◌else◌}
use Rattle.ygrammar.specs.Numbered.{last_token}
use Rattle.ygrammar.proofs.rules.last_token.Given as goal

abbrev pub invariant-loop-s : goal.invariant-loop-s
invariant-loop-s l = fold (λ last s. if nat_lt s l.tokens then Some s else last) l.last
    (drop l.s-index l.body) ≡ last_token l.tokens l.body
