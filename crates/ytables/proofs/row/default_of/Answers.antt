use Rattle.std.proofs.Common.{◌≡◌, Bool, true, false, List, [], ◌∷◌, ◌||◌, None, refl, sym, ap, ◌∙◌}
use Rattle.std.proofs.Common.{if◌then◌else◌}
use Rattle.std.specs.List.{filter, list_any}
use mathlib.Core.Bool.{beq}
use Rattle.ytables.specs.Cell.{common, is_filled}
use Rattle.ytables.proofs.row.default_of.Goals as goal

beq_true : (b : Bool) → b ≡ beq b true
beq_true true = refl
beq_true false = refl

any_true : (xs : List Bool) → list_any (λ b. b) xs ≡ list_any (λ b. beq b true) xs
any_true [] = refl
any_true (x ∷ xs) = ap (λ b. b || list_any (λ b. b) xs) (beq_true x) ∙ ap (λ b. beq x true || b)
    (any_true xs)

pub returns-then-contains : goal.returns-then-contains
returns-then-contains c =
    let found : list_any (λ b. b) c.args.before.now ≡ true = any_true c.args.before.now ∙ sym
    c.contains.ensures.value ∙ c.if-contains.true in
    sym (ap (λ b. if b then None else common (filter is_filled c.args.actions.now)) found)
