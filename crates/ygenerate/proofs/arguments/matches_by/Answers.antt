use Rattle.std.proofs.Common.{◌≡◌, ℕ, List, map, subst, ap, ◌∙◌}
use Rattle.std.specs.Borrow.{Bor}
use Rattle.clap.specs.Words.{App, app_of, is_simple, is_simple_and_free}
use Rattle.ygenerate.specs.Arguments.{ReadsAs}
use Rattle.ygenerate.proofs.Words.{reads_as}
use Rattle.ygenerate.proofs.arguments.matches_by.Goals as goal

pub returns-clause-reads : goal.returns-clause-reads
returns-clause-reads c = λ app is plain free.
    let ws : List (List ℕ) = map (λ (word : Bor (List ℕ)). word.now) c.args.words.now in
    let same : app_of c.in_ok-command.field-0 ≡ app = rw c.in_ok-command.was at is in
    let parse = c.try_get_matches_from in
    subst (λ (a : App). ReadsAs a ws parse.result) same
    (reads_as (app_of c.in_ok-command.field-0) ws parse.result (ap is_simple same ∙ plain)
    (ap is_simple_and_free same ∙ free)
    parse.ensures.matches parse.ensures.kinds parse.ensures.passes)
