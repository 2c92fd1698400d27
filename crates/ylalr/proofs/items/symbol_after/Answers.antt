use Rattle.std.proofs.Common.{ℕ, ◌≡◌, ◌<◌, ◌∙◌, ap, subst, sym, List, ◌∷◌, suc, length, get_or}
use Rattle.std.proofs.Common.{drop}
use Rattle.std.proofs.Math.Seq.{drop-cons}
use Rattle.ysymbols.specs.Grammar.{Production, body_of}
use Rattle.ylalr.proofs.items.symbol_after.Goals as goal

pub returns-then-item-body : goal.returns-then-item-body
returns-then-item-body c =
    let g = c.args.grammar.now.bare in
    let d = c.args.item.dot in
    let bb : c.body-body.result.now ≡ body_of g c.args.item.rule = c.body-body.ensures ∙ ap
    (λ (p : Production). p.body) c.rule.ensures.production in
    let h : d < length (body_of g c.args.item.rule) = subst (λ (b : List ℕ). d < length b) bb
    c.if-item-body.true in
    let be : get_or c.body-body.result.now d 0 ≡ get_or (body_of g c.args.item.rule) d 0 =
    ap (λ (b : List ℕ). get_or b d 0) bb in (
      subst (λ s. s < g.symbols) (sym be)
          (c.symbols-well_formed.ensures.well_formed.body c.args.item.rule c.requires d 0 h),
      drop-cons (body_of g c.args.item.rule) d 0 h ∙ ap
          (λ s. s ∷ drop (suc d) (body_of g c.args.item.rule)) (sym be),
      h,
    )
