use Rattle.std.proofs.Common.{◌≡◌, ◌<◌, ◌+◌, ◌∙◌, ◌∷◌, List, ℕ, length, drop, get_or, refl, ap}
use Rattle.std.proofs.Common.{subst, arith}
use Rattle.ysymbols.specs.Grammar.{GrammarValue, Production, body_of}
use Rattle.ylalr.specs.Collection.{bare_of}
use Rattle.yprovenance.proofs.FrontSteps.{after_there}
use Rattle.yprovenance.proofs.leads.next.Goals as goal

pub returns-then-item-body-clause-exact : goal.returns-then-item-body-clause-exact
returns-then-item-body-clause-exact c =
    let d = c.args.item.dot in
    let b = c.body-body.result.now in
    let body : b ≡ body_of (bare_of c.args.automaton.now) c.args.item.rule =
    c.body-body.ensures ∙ ap (λ (p : Production). p.body) c.rule.ensures.production ∙ ap
    (λ (v : GrammarValue). body_of v.bare c.args.item.rule) c.grammar-grammar.ensures in
    let h : d < length b = omega arith in (
      drop (d + 1) b,
      subst (λ (x : List ℕ). drop d x ≡ get_or b d 0 ∷ drop (d + 1) b) body
          (after_there b d (get_or b d 0) h refl),
    )
