use Rattle.std.proofs.Common.{◌≡◌, ◌<◌, ◌∙◌, ap, subst, sym, length, arith}
use Rattle.ysymbols.specs.Grammar.{Production, left_of}
use Rattle.ylalr.specs.Fronts.{AreFrontLinks}
use Rattle.ylalr.proofs.FrontSteps.{leads_none, leads_more}
use Rattle.ylalr.proofs.fronts.front_links.Goals as goal

pub loop-r-init : goal.loop-r-init
loop-r-init c = leads_none c.args.grammar.now.bare c.args.passed.now c.in_ok-links.links
    (c.in_ok-links.ensures.sized ∙ c.symbols.ensures.value) c.in_ok-links.ensures.empty

pub loop-r-preserved : goal.loop-r-preserved
loop-r-preserved c =
    let g = c.args.grammar.now.bare in
    let r = c.loop-r.r in
    let h : r < length g.rules = omega arith in
    let le : c.left.result ≡ left_of g r = c.left.ensures ∙ ap (λ (p : Production). p.left)
    c.rule-rule.ensures.production in
    let bb = c.body.ensures ∙ ap (λ (p : Production). p.body) c.rule-rule.ensures.production in
    leads_more g c.args.passed.now r c.left.result c.body.result.now c.loop-r.links
    c.link_front.new.links (subst (λ i. i < g.symbols) (sym le)
    (c.symbols.ensures.well_formed.left r h)) le bb c.in_ok-link_front.ensures.sized
    c.in_ok-link_front.ensures.adds c.loop-r.invariant

pub returns : goal.returns
returns c =
    let g = c.args.grammar.now.bare in
    let e : c.loop-r.r ≡ length g.rules = omega arith in
    subst (λ k. AreFrontLinks g c.args.passed.now k c.loop-r.links) e c.loop-r.invariant
