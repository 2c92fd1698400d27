use Rattle.std.proofs.Common.{List, ℕ, [], ◌≡◌, ◌∙◌, Vec, Global, Option, ap, sym}
use Rattle.std.proofs.Common.{MatchOption, subst}
use Rattle.ybitsets.specs.Waiting.{IsOut, AreOut}
use Rattle.ybitsets.proofs.WaitingSteps.{out_first, out_turned, over, nothing, nothing_left}
use Rattle.ybitsets.proofs.waiting.pop.Goals as goal

pub returns-in-Some : goal.returns-in-Some
returns-in-Some c = out_first _ _ _ _ c.in-Some.ensures.items

pub returns-in_err-p : goal.returns-in_err-p
returns-in_err-p c =
    let round = c.args.round.now in
    let a = round.items in
    let b = c.args.next.now.items in
    let swapped = c.swap.new.x in
    let none : a ≡ [] = nothing a round.len round.ok.0 c.in_default.ensures.variant.1 in
    let none_next : swapped.items ≡ [] =
    nothing swapped.items swapped.len swapped.ok.0 c.in_err-p.ensures.variant.1 in
    let same : swapped.items ≡ b = ap (λ (v : Vec ℕ Global). v.items) c.swap.ensures.x_after in
    let popped : c.swap.new.y.items ≡ c.pop.new.self.items =
    ap (λ (v : Vec ℕ Global). v.items) c.swap.ensures.y_after in
    subst (λ (o : Option ℕ). MatchOption o
    (AreOut a b × AreOut c.pop-2.new.self.items c.swap.new.y.items)
    (IsOut a b c.pop-2.new.self.items c.swap.new.y.items)) (sym c.from_residual.ensures) (
      over a b none (sym same ∙ none_next),
      over c.pop-2.new.self.items c.swap.new.y.items
          (nothing_left swapped.items _ c.in_err-p.ensures.items none_next)
          (popped ∙ nothing_left a _ c.in_default.ensures.items none),
    )

pub returns : goal.returns
returns c =
    let round = c.args.round.now in
    let a = round.items in
    let b = c.args.next.now.items in
    let rest = c.pop-2.new.self.items in
    let none : a ≡ [] = nothing a round.len round.ok.0 c.in_default.ensures.variant.1 in
    let same : c.swap.new.x.items ≡ b = ap (λ (v : Vec ℕ Global). v.items) c.swap.ensures.x_after in
    let popped : c.swap.new.y.items ≡ c.pop.new.self.items =
    ap (λ (v : Vec ℕ Global). v.items) c.swap.ensures.y_after in
    let still : a ≡ c.swap.new.y.items =
    none ∙ sym (popped ∙ nothing_left a _ c.in_default.ensures.items none) in
    subst (λ (l : List ℕ). IsOut a b rest l c.in_ok-p.p) still
    (out_turned b a rest a c.in_ok-p.p
    (out_first b a rest c.in_ok-p.p (sym same ∙ c.in_ok-p.ensures.items)))
