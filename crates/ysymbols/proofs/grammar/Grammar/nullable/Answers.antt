use Rattle.std.proofs.Common.{Result, Ok, Err, IfOk, ap, arith, subst, sym, ◌∙◌}
use Rattle.ysymbols.specs.Forms.{MarksNullable}
use Rattle.ysymbols.specs.Grammar.{GrammarValue}
use Rattle.ysymbols.proofs.ProductiveSteps.{marks_nullable}
use Rattle.ysymbols.proofs.grammar.Grammar.nullable.Goals as goal

-- of two things that hold of an answer a third follows
third : {A E : Type 0} {P Q R : A → Type 0} (r : Result A E) → ((x : A) → P x → Q x → R x) →
    IfOk r P → IfOk r Q → IfOk r R
third (Ok x) f p q = f x p q
third (Err e) f p q = tt

pub returns : goal.returns
returns c =
    let v = c.self.inside in
    let n = c.symbols.ensures.value
    ∙ sym (ap (λ (g : GrammarValue). g.bare.symbols) c.self.view_is) in
    subst (λ (g : GrammarValue). IfOk c.productive.result (λ m. MarksNullable g.bare m.items))
    c.self.view_is (third c.productive.result (λ m sized exact. marks_nullable v.tokens _ _ _ _
    m.items n c.deref.ensures.value (omega (arith, sized, m.ok.0)) exact)
    c.productive.ensures.sized c.productive.ensures.exact)
