use Rattle.std.proofs.Common.{◌≡◌, ◌<◌, ◌++◌, ◌∷◌, [], List, ℕ, length, get_or, sym, subst, ap, ◌∙◌}
use Rattle.std.proofs.Common.{arith}
use Rattle.std.proofs.Math.ListN.{set}
use Rattle.std.proofs.lemmas.List.{get_or-map, length-map, map-set}
use Rattle.ysymbols.specs.Marking.{IsFiled, items_of, lists_of}
use Rattle.ysymbols.proofs.FilingSteps.{filed}
use Rattle.ysymbols.proofs.occurrences.file.Goals as goal

pub returns-clause-filed : goal.returns-clause-filed
returns-clause-filed c =
    let ls = lists_of c.args.lists.now in
    let s = c.args.s in
    let h : s < length ls = omega (arith, length-map c.args.lists.now.items items_of, c.requires) in
    let e : items_of c.push.new.self ≡ get_or ls s [] ++ c.args.r ∷ [] =
    c.in_ok-push.ensures.items ∙ ap (λ (l : List ℕ). l ++ c.args.r ∷ [])
    (ap items_of c.index_mut.ensures.value ∙ sym
    (get_or-map items_of c.args.lists.now.items s c.index_mut.result.now [] c.requires)) in
    subst (λ (x : List (List ℕ)). IsFiled s c.args.r ls x)
    (sym (map-set items_of c.args.lists.now.items s c.push.new.self ∙ ap
    (λ (l : List ℕ). set ls s l) e)) (filed ls s c.args.r h)
