use Rattle.std.proofs.Common.{◌<◌, List, length, sym, ap, ◌∙◌, subst, arith}
use Rattle.ylalr.specs.declared.items.Item.{Item}
use Rattle.ylalr.specs.Collection.{Collection, Guide, IsGuide, state_of}
use Rattle.yprovenance.proofs.CandidateSteps.{first_is, first_isnt, rules_whole}
use Rattle.yprovenance.proofs.candidates.next_rule.Goals as goal

pub returns-in-Some-clause-next : goal.returns-in-Some-clause-next
returns-in-Some-clause-next c u h =
    let m = c.args.tables.now.built in
    let d : Item = record { rule = 0; dot = 0 } in
    let within : c.loop-at.at < length (state_of m c.args.q) = subst
    (λ (l : List Item). c.loop-at.at < length l) (c.items-at-end.ensures ∙ ap
    (λ (m : Collection). state_of m c.args.q) c.automaton-automaton.ensures.value)
    c.loop-at-test.true in
    c.loop-at.invariant.none u h ∙ (first_is m u c.args.q c.args.t c.loop-at.at d c.in-Some.candidate
    within (sym c.in-Some.is ∙ c.candidate_at.ensures u h d)).0

pub returns-in-Some-clause-further : goal.returns-in-Some-clause-further
returns-in-Some-clause-further c =
    let m = c.args.tables.now.built in
    let d : Item = record { rule = 0; dot = 0 } in
    let within : c.loop-at.at < length (state_of m c.args.q) = subst
    (λ (l : List Item). c.loop-at.at < length l) (c.items-at-end.ensures ∙ ap
    (λ (m : Collection). state_of m c.args.q) c.automaton-automaton.ensures.value)
    c.loop-at-test.true in
    let guide : (u : Guide) × IsGuide m u = subst (λ m. (u : Guide) × IsGuide m u)
    c.automaton-automaton.ensures.value c.states-guide.ensures.guide in
    let here = (first_is m guide.0 c.args.q c.args.t c.loop-at.at d c.in-Some.candidate within
    (sym c.in-Some.is ∙ c.candidate_at.ensures guide.0 guide.1 d)).1 in
    let far = c.loop-at.invariant.further in
    record { further = omega (arith, here, far); within = omega (arith, here, within) }

pub returns-in-Some-clause-rules : goal.returns-in-Some-clause-rules
returns-in-Some-clause-rules c u = rules_whole c.args.tables.now.built u c.args.q c.args.t

pub loop-at-preserved : goal.loop-at-preserved
loop-at-preserved c =
    let m = c.args.tables.now.built in
    let d : Item = record { rule = 0; dot = 0 } in
    let within : c.loop-at.at < length (state_of m c.args.q) = subst
    (λ (l : List Item). c.loop-at.at < length l) (c.items-at-end.ensures ∙ ap
    (λ (m : Collection). state_of m c.args.q) c.automaton-automaton.ensures.value)
    c.loop-at-test.true in
    let far = c.loop-at.invariant.further in
    record {
      further = omega (arith, far);
      none = λ u h. c.loop-at.invariant.none u h ∙ first_isnt m u c.args.q c.args.t c.loop-at.at d
          within (sym c.in_default.is ∙ c.candidate_at.ensures u h d);
    }

pub returns-clause-rules : goal.returns-clause-rules
returns-clause-rules c u = rules_whole c.args.tables.now.built u c.args.q c.args.t
