use Rattle.std.proofs.Common.{ℕ, List, arith}
use Rattle.std.proofs.lemmas.Result.{IfOk-weaker}
use Rattle.ysymbols.specs.Grammar.{GrammarValue}
use Rattle.ymachine.specs.Rightmost.{AreInput}
use Rattle.ytokens.specs.Tokens.{Fits, symbols_of}
use Rattle.ysession.proofs.Soundness.{sound}
use Rattle.ysession.proofs.Exactness.{exact}
use Rattle.ysession.proofs.LongSentences.{answered}
use Rattle.ysession.proofs.verdict.judge.Goals as goal

-- tokens that fit a grammar are an input for it
input_of : (v : GrammarValue) (w : List ℕ) → Fits v w → AreInput v.bare w
input_of v w f = (
  (λ n d lt. (f n d lt).1),
  (λ n d lt e. let i = (f n d lt).0 in absurd (omega (arith, i, e))),
)

pub returns-clause-sound : goal.returns-clause-sound
returns-clause-sound c =
    let w = symbols_of c.args.tokens.now in
    IfOk-weaker c.verdict_on.result _ _ (λ v is.
    sound _ _ c.known.ensures.grammar c.known.ensures.cells w (input_of c.args.tables.now.built.grammar w c.requires) v is.says)
    c.verdict_on.ensures

pub returns-clause-exact : goal.returns-clause-exact
returns-clause-exact c free =
    let w = symbols_of c.args.tokens.now in
    IfOk-weaker c.verdict_on.result _ _ (λ v is.
    exact _ _ c.known.ensures.grammar c.known.ensures.cells (c.known.ensures.complete free) w
    (input_of c.args.tables.now.built.grammar w c.requires) v is.says) c.verdict_on.ensures

pub returns-clause-complete : goal.returns-clause-complete
returns-clause-complete c free =
    let w = symbols_of c.args.tokens.now in
    IfOk-weaker c.verdict_on.result _ _ (λ v is.
    answered _ _ c.known.ensures.grammar c.known.ensures.cells (c.known.ensures.complete free) w
    (input_of c.args.tables.now.built.grammar w c.requires) v is) c.verdict_on.ensures
