use Rattle.std.proofs.Common.{◌≡◌, ◌<◌, ◌+◌, ◌∙◌, ◌∷◌, List, ℕ, length, drop, get_or, inr, ap}
use Rattle.std.proofs.Common.{subst, arith}
use Rattle.ysymbols.specs.Grammar.{GrammarValue, Production, left_of, body_of}
use Rattle.ylalr.specs.Collection.{bare_of}
use Rattle.yprovenance.proofs.FrontSteps.{after_there}
use Rattle.yprovenance.proofs.front.front_after.Goals as goal

pub returns-then-body-item-clause-next : goal.returns-then-body-item-clause-next
returns-then-body-item-clause-next c =
    let g = bare_of c.args.automaton.now in
    let d = c.args.item.dot in
    let b = c.body-body.result.now in
    let body : b ≡ body_of g c.args.item.rule = c.body-body.ensures ∙ ap
    (λ (p : Production). p.body) c.rule.ensures.production ∙ ap
    (λ (v : GrammarValue). body_of v.bare c.args.item.rule) c.grammar-grammar.ensures in
    let left : get_or b d 0 ≡ left_of g c.args.rule = c.if-body-item.true ∙ c.left.ensures ∙ ap
    (λ (p : Production). p.left) c.rule-then-item-body.ensures.production ∙ ap
    (λ (v : GrammarValue). left_of v.bare c.args.rule) c.grammar-grammar.ensures in
    let h : d < length b = omega arith in
    inr (
      drop (d + 1) (body_of g c.args.item.rule),
      subst (λ (x : List ℕ). drop d x ≡ left_of g c.args.rule ∷ drop (d + 1)
          (body_of g c.args.item.rule)) body (after_there b d (left_of g c.args.rule) h left ∙ ap
          (λ (x : List ℕ). left_of g c.args.rule ∷ drop (d + 1) x) body),
    )
