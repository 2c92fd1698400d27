-- What the words of a program give, where its command line is as specified.
use Rattle.std.proofs.Common.{◌≡◌, ℕ, true, List, Result, IfOk, IfErr, sym, ap, ◌∙◌}
use Rattle.std.proofs.lemmas.Result.{IfOk-weaker}
use Rattle.clap.specs.declared.error.Error.{Error}
use Rattle.clap.specs.declared.error.kind.ErrorKind.TheVariants.{OutOfMemory}
use Rattle.clap.specs.Words.{App, HasMatchesOf, is_simple, kind_of, takes, first_of, found_of}
use Rattle.clap.specs.Faults.{fault_of, is_simple_and_free}
use Rattle.clap.specs.Kinds.{FailsBy}
use Rattle.clap.specs.declared.parser.matches.ArgMatches.{ArgMatches}
use Rattle.clap.proofs.WalkLemmas.{first_value-rows}
use Rattle.ygenerate.specs.Arguments.{ReadsAs}

-- what `clap` says of a parse, for a command line of plain rules
pub reads_as : (line : App) (ws : List (List ℕ)) (r : Result ArgMatches Error)
    → is_simple line ≡ true → is_simple_and_free line ≡ true
    → IfOk r (HasMatchesOf line ws)
    → (is_simple_and_free line ≡ true → FailsBy (fault_of line ws) r)
    → IfErr r (λ e. takes line ws ≡ true → kind_of e ≡ OutOfMemory) → ReadsAs line ws r
reads_as line ws r plain free matches kinds passes = record {
  values = IfOk-weaker r _ _ (λ found has id.
      ap (first_of id) (sym (has plain).0) ∙ sym (first_value-rows (found_of found) id)) matches;
  faults = kinds free;
  taken = passes;
}
