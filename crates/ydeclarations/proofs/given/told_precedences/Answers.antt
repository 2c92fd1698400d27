use Rattle.std.proofs.Common.{arith, rules}
use Rattle.ydeclarations.specs.Elaboration.{gives_of}
use Rattle.ydeclarations.proofs.SecondSteps.{goes_on, has_none, has_one, hits, no_far}
use Rattle.ydeclarations.proofs.TellingSteps.{is_none, passes_at, says_at, twice_at}
use Rattle.ydeclarations.proofs.given.told_precedences.Goals as goal

pub loop-one-preserved : goal.loop-one-preserved
loop-one-preserved c = record {
  told = says_at gives_of _ _ c.loop-one.given.items c.args.listed.now c.loop-one.one-index _
      c.in-Some.precedence c.number_of-token.result (omega arith) c.in-Some.is
      c.number_of-token.ensures (search rules) (is_none _ (search rules)) c.loop-one.invariant.told;
  place = λ all at later. c.loop-one.invariant.place all at
      (goes_on c.args.listed.now c.loop-one.one-index _ at (omega arith)
      (has_none _ c.loop-one.given.items c.args.listed.now c.loop-one.one-index _
      c.number_of-token.result c.number_of-token.ensures (search rules) (is_none _ (search rules))
      c.loop-one.invariant.told) later);
}

pub returns-then-is_some-clause-told : goal.returns-then-is_some-clause-told
returns-then-is_some-clause-told c =
    twice_at gives_of _ _ c.loop-one.given.items c.args.listed.now c.loop-one.one-index _
    c.in-Some.precedence c.number_of-token.result _ _ (omega arith) c.in-Some.is
    c.number_of-token.ensures (search rules) c.index.ensures c.is_some.ensures c.if-is_some.true
    c.loop-one.invariant.told

pub returns-then-is_some-clause-place : goal.returns-then-is_some-clause-place
returns-then-is_some-clause-place c = λ all. c.loop-one.invariant.place all _
    (hits c.args.listed.now c.loop-one.one-index _ (omega arith)
    (has_one _ c.loop-one.given.items c.args.listed.now c.loop-one.one-index _
    c.in-Some.precedence c.number_of-token.result _ _ c.in-Some.is
    c.number_of-token.ensures (search rules) c.index.ensures c.is_some.ensures c.if-is_some.true
    c.loop-one.invariant.told))

pub loop-one-preserved-then-token-len : goal.loop-one-preserved-then-token-len
loop-one-preserved-then-token-len c = record {
  told = passes_at gives_of _ _ c.loop-one.given.items c.args.listed.now c.loop-one.one-index _
      c.number_of-token.result (omega arith) c.number_of-token.ensures (search rules)
      c.loop-one.invariant.told;
  place = λ all at later. absurd (no_far _ c.loop-one.given.items c.args.listed.now
      c.loop-one.one-index _ c.number_of-token.result _ c.number_of-token.ensures (omega arith)
      (search rules) c.loop-one.invariant.told all);
}
