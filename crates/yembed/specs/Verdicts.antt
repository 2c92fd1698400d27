-- The tokens of a text, and the verdict on them.
use Rattle.std.specs.Prelude.{ℕ, ◌≡◌, List, false, if◌then◌else◌, Ok}
use Rattle.ygenerate.specs.Sources.{AreTablesOf}
use Rattle.ytables.specs.Tables.{TablesValue}
use Rattle.ytokens.specs.Reading.{TokensOf}
use Rattle.ymachine.specs.Headline.{IsMachineOf}
use Rattle.ymachine.specs.MachineOver.{machine_over}
use Rattle.ysession.specs.Sentences.{IsAnswered, IsExactOf, IsSoundOf}
use Rattle.ysession.specs.Verdict.{IsVerdict}
use Rattle.ysession.specs.declared.verdict.Verdict.{Verdict}
use Rattle.ysession.specs.declared.verdict.Verdict.TheVariants.{Accepted, Rejected, Limit}
use Rattle.yembed.specs.declared.verdicts.Judged.{Judged}

-- these are the tokens that the text means by the grammar of these bytes
pub record AreTokens (grammar text symbols : List ℕ) : Type 0 where
  pub tables : TablesValue
  pub are : AreTablesOf grammar tables
  pub names : TokensOf tables.built.grammar text (Ok symbols)

-- a verdict in numbers: 1 and the steps of an accepted parse, 2 and the place of a rejected token,
-- or 3 at the limit of steps
abbrev pub Tells : Verdict → ℕ → ℕ → ℕ → Type 0
Tells (Accepted p) outcome steps token = (outcome ≡ 1) × (steps ≡ p) × (token ≡ 0)
Tells (Rejected place) outcome steps token = (outcome ≡ 2) × (steps ≡ 0) × (token ≡ place)
Tells Limit outcome steps token = (outcome ≡ 3) × (steps ≡ 0) × (token ≡ 0)

-- This is the verdict on the tokens of the text, by the steps of the one machine of the grammar, and
-- what it says of sentences. `exact` is 1 exactly where no cell has a choice.
pub record IsJudged (grammar text : List ℕ) (judged : Judged) : Type 0 where
  pub tables : TablesValue
  pub are : AreTablesOf grammar tables
  pub symbols : List ℕ
  pub names : TokensOf tables.built.grammar text (Ok symbols)
  pub verdict : Verdict
  pub told : Tells verdict judged.outcome judged.steps judged.token
  pub choice : judged.exact ≡ (if tables.choice then 0 else 1)
  pub machine : IsMachineOf tables.built.grammar (machine_over tables)
  pub steps : IsVerdict (machine_over tables) symbols verdict
  pub sound : IsSoundOf tables.built.grammar.bare symbols verdict
  pub complete : tables.choice ≡ false → IsAnswered tables.built.grammar.bare symbols verdict
  pub exact : tables.choice ≡ false → IsExactOf tables.built.grammar.bare symbols verdict
