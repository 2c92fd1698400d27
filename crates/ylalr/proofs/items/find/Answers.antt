use Rattle.std.proofs.Common.{MatchOption, subst, sym, rules}
use Rattle.std.specs.List.{Contains}
use Rattle.std.proofs.lemmas.List.Sorted.{answers_always}
use Rattle.ylalr.specs.declared.items.Item.{Item}
use Rattle.ylalr.specs.Sets.{IsAt}
use Rattle.ylalr.proofs.SearchSteps.{item_found}
use Rattle.ylalr.proofs.items.find.Goals as goal

pub returns : goal.returns
returns c =
    let facts = c.binary_search_by_key.ensures in
    let by_key = facts.position (λ (i : Item). (i.rule, i.dot))
    (answers_always _ _ _ (λ f a r g called. search rules)) in
    subst (λ o. MatchOption o (Contains c.args.items.now c.args.item → ⊥)
    (λ k. IsAt c.args.items.now c.args.item k)) (sym c.ok.ensures.value)
    (item_found c.args.items.now c.args.item c.binary_search_by_key.result c.requires facts.bound
    by_key)
