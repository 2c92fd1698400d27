use Rattle.std.proofs.Common.{◌≡◌, ℕ, true, List, codes, refl, sym, ap, ◌∙◌}
use Rattle.std.specs.Prelude.{option_map}
use Rattle.std.specs.Borrow.{Bor}
use Rattle.clap.specs.Words.{is_simple}
use Rattle.clap.specs.Faults.{is_simple_and_free}
use Rattle.std.proofs.lemmas.Result.{err_from_is_err_and}
use Rattle.ygenerate.specs.Arguments.{ystep_app}
use Rattle.ygenerate.proofs.arguments.ystep_words.Goals as goal

is_plain : is_simple ystep_app ≡ true
unfolding ystep_app
is_plain = refl

is_free : is_simple_and_free ystep_app ≡ true
unfolding ystep_app
is_free = refl

pub returns-clause-paths : goal.returns-clause-paths
returns-clause-paths c =
    let reads = c.in_ok-matches.ensures.reads ystep_app c.ystep_command.ensures.app is_plain is_free
    in (
      reads.values (codes "grammar") ∙ sym c.get_str.ensures
          ∙ ap (option_map (λ (s : Bor (List ℕ)). s.now)) c.unwrap-grammar.ensures,
      reads.values (codes "tokens") ∙ sym c.get_str-2.ensures
          ∙ ap (option_map (λ (s : Bor (List ℕ)). s.now)) c.unwrap-tokens.ensures,
    )

pub returns-clause-faults : goal.returns-clause-faults
returns-clause-faults c =
    (c.in_ok-matches.ensures.reads ystep_app c.ystep_command.ensures.app is_plain is_free).faults

pub returns-in_err-matches-clause-faults : goal.returns-in_err-matches-clause-faults
returns-in_err-matches-clause-faults c =
    let is = err_from_is_err_and c.from_residual.result c.from_residual.ensures.1 in
    rw (is.1, is.2) (c.in_err-matches.ensures.reads ystep_app c.ystep_command.ensures.app is_plain
    is_free).faults

pub returns-in_err-matches-clause-taken : goal.returns-in_err-matches-clause-taken
returns-in_err-matches-clause-taken c =
    let is = err_from_is_err_and c.from_residual.result c.from_residual.ensures.1 in
    rw (is.1, is.2) (c.in_err-matches.ensures.reads ystep_app c.ystep_command.ensures.app is_plain
    is_free).taken
