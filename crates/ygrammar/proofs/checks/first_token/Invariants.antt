use Rattle.std.proofs.Common.{◌≡◌, drop}
use Rattle.std.specs.List.{find}
use Rattle.ysymbols.specs.Names.{is_among}
use Rattle.ysyntax.specs.TreeViews.{name_view}
use Rattle.ygrammar.proofs.checks.first_token.Given as goal

abbrev pub invariant-loop-name : goal.invariant-loop-name
invariant-loop-name l = find (λ n. is_among l.tokens (name_view n))
    (drop l.name-index l.names) ≡ find (λ n. is_among l.tokens (name_view n)) l.names
