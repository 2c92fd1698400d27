use Rattle.std.proofs.Common.{ℕ, ◌≡◌, ◌∙◌, sym, subst, arith}
use Rattle.ycode.specs.Translation.{TranslatesTo}
use Rattle.ycode.proofs.TranslationSteps.{translation_is}
use Rattle.ycode.proofs.translate.translation.Goals as goal

pub returns-clause-list : goal.returns-clause-list
returns-clause-list c =
    let numbers = c.args.grammar.now.numbers in
    let tokens = c.args.tokens in
    let items = c.loop-s.symbols.items in
    let e : c.loop-s.s ≡ tokens = (let t = c.loop-s-test.false in let u = c.loop-s.auto.s-end in
    omega (arith, t, u)) in
    c.of.ensures ∙ translation_is tokens numbers items
    (c.symbols-well_formed.ensures.whole.numbers ∙ sym c.requires) c.loop-s.invariant.len
    (subst (λ (s : ℕ). TranslatesTo s numbers tokens items) e c.loop-s.invariant.translates)
