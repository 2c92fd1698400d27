use Rattle.std.proofs.Common.{ℕ, ◌≡◌, ◌-◌, ◌∙◌, inr, get_or, sym, ap, refl, arith, Some, not}
use Rattle.std.proofs.Common.{nat_eq}
use Rattle.std.specs.List.{find}
use Rattle.std.proofs.lemmas.Bool.{ne_eqb}
use Rattle.std.proofs.lemmas.List.Elements.{Contains-get_or}
use Rattle.ysymbols.specs.Grammar.{Production}
use Rattle.ylalr.specs.declared.items.Item.{Item}
use Rattle.ycode.specs.Symbols.{has_moved, symbol_behind}
use Rattle.ycode.proofs.ListSteps.{find_first, find_none}
use Rattle.ycode.proofs.SymbolSteps.{stands_at}
use Rattle.ycode.proofs.symbols.symbol_before.Goals as goal

pub returns-then-item-ne0-clause-before : goal.returns-then-item-ne0-clause-before
returns-then-item-ne0-clause-before c =
    let g = c.args.grammar.now.bare in
    let k = c.args.items.now in
    let at = c.loop-item.item-index in
    let none : Item = record { rule = 0; dot = 0 } in
    let i : Item = get_or k at none in
    let some = c.if-item-ne0.true in
    stands_at g k i (get_or c.body.result.now (i.dot - 1) 0)
    (Contains-get_or k at none c.loop-item-test.true) (omega (arith, some))
    (c.requires at none c.loop-item-test.true).1
    (ap (λ l. get_or l (i.dot - 1) 0) (c.body.ensures ∙ ap (λ (p : Production). p.body)
    c.rule.ensures.production))

pub returns-clause-before : goal.returns-clause-before
returns-clause-before c = inr (
  λ i h. sym (ap (λ (j : Item). j.dot) h.2) ∙ c.loop-item.invariant h.0 i
      (let l = h.1 in let t = c.loop-item-test.false in omega (arith, l, t)) h.1,
  refl,
)

pub returns-then-item-ne0-clause-is : goal.returns-then-item-ne0-clause-is
returns-then-item-ne0-clause-is c =
    let g = c.args.grammar.now.bare in
    let k = c.args.items.now in
    let at = c.loop-item.item-index in
    let none : Item = record { rule = 0; dot = 0 } in
    let i : Item = get_or k at none in
    let some = c.if-item-ne0.true in
    let first : find has_moved k ≡ Some i = find_first has_moved k at none c.loop-item-test.true
    (λ j l. ap (λ (d : ℕ). not (nat_eq d 0)) (c.loop-item.invariant j none l
    (let t = c.loop-item-test.true in omega (arith, l, t))))
    (ap not (ne_eqb i.dot 0 (λ e. some e))) in
    ap (λ l. get_or l (i.dot - 1) 0) (c.body.ensures ∙ ap (λ (p : Production). p.body)
    c.rule.ensures.production) ∙ ap (symbol_behind g) (sym first)

pub returns-clause-is : goal.returns-clause-is
returns-clause-is c =
    let k = c.args.items.now in
    let none : Item = record { rule = 0; dot = 0 } in
    ap (symbol_behind c.args.grammar.now.bare) (sym (find_none has_moved k none
    (λ j l. ap (λ (d : ℕ). not (nat_eq d 0)) (c.loop-item.invariant j none
    (let t = c.loop-item-test.false in omega (arith, l, t)) l))))
