use Rattle.std.proofs.Common.{ℕ, ◌≡◌, ◌<◌, ◌∙◌, ◌∷◌, ◌⊎◌, List, length, refl, sym, ap, subst, inl}
use Rattle.std.proofs.Common.{inr, arith}
use Rattle.ysymbols.specs.Grammar.{GrammarValue, Production, left_of}
use Rattle.ysymbols.specs.WellFormed.{WellFormed}
use Rattle.ylalr.specs.Collection.{bare_of}
use Rattle.ybitsets.specs.Links.{Link}
use Rattle.ybitsets.proofs.LinkSteps.{link_cases, link_kept, link_there, links_push}
use Rattle.yprovenance.specs.Leads.{IsOpening}
use Rattle.yprovenance.proofs.leads.link_item.Goals.{In_ok-push}
use Rattle.yprovenance.proofs.leads.link_item.Goals as goal

-- the left side to which the link goes
left : (c : In_ok-push) → c.left.result ≡ left_of (bare_of c.args.automaton.now) c.args.item.rule
left c = c.left.ensures ∙ ap (λ (p : Production). p.left) c.rule.ensures.production ∙ ap
    (λ (v : GrammarValue). left_of v.bare c.args.item.rule) c.grammar-grammar.ensures

-- the symbol from which it comes
here : (c : In_ok-push) → c.in-Some.symbol < length c.args.links.now
here c = let n = c.requires.links.sized in let s = c.in-Some.ensures.within in omega (arith, n, s)

within : (c : In_ok-push) → c.left.result < (bare_of c.args.automaton.now).symbols
within c =
    let w = subst (λ (v : GrammarValue). WellFormed v.bare) c.grammar-grammar.ensures
    c.symbols-well_formed.ensures.well_formed in
    subst (λ n. n < (bare_of c.args.automaton.now).symbols) (sym (left c))
    (w.left c.args.item.rule c.requires.item)

pub returns-in_ok-push-clause-links : goal.returns-in_ok-push-clause-links
returns-in_ok-push-clause-links c =
    links_push c.args.links.now c.push.new.self c.in-Some.symbol c.left.result (here c)
    c.in_ok-push.ensures (bare_of c.args.automaton.now).symbols c.requires.links (within c)

pub returns-in_ok-push-clause-kept : goal.returns-in_ok-push-clause-kept
returns-in_ok-push-clause-kept c = link_kept c.args.links.now c.push.new.self c.in-Some.symbol
    c.left.result (here c) c.in_ok-push.ensures

pub returns-in_ok-push-clause-every : goal.returns-in_ok-push-clause-every
returns-in_ok-push-clause-every c = λ p t o.
    let new = c.push.new.self in
    let x = c.in-Some.symbol in
    let n = c.in-Some.ensures.exact in
    let h : x ∷ n.0 ≡ p ∷ o.rest = sym n.1 ∙ o.next in
    let same : x ≡ p = cc in
    subst (λ z. Link new z t) same (subst (λ z. Link new x z) (left c ∙ sym o.left)
    (link_there c.args.links.now new x c.left.result (here c) c.in_ok-push.ensures))

pub returns-in_ok-push-clause-only : goal.returns-in_ok-push-clause-only
returns-in_ok-push-clause-only c = λ p t l.
    let m = c.args.automaton.now in
    let n = c.in-Some.ensures.exact in
    elim (link_cases c.args.links.now c.push.new.self c.in-Some.symbol c.left.result (here c)
    c.in_ok-push.ensures p t l) as (λ z. Link c.args.links.now p t ⊎ IsOpening m c.args.item p t) [
      | inl a ↦ inl a
      | inr b ↦ inr (record {
        rest = n.0;
        first = (let g = c.if-item-gt0.false in omega (arith, g));
        left = b.1 ∙ left c;
        next = n.1 ∙ ap (λ z. z ∷ n.0) (sym b.0);
      })
    ]
