use Rattle.std.proofs.Common.{rules, Ok, ◌≡◌, ◌∷◌, [], ◌++◌, ap, sym, subst, ◌∙◌}
use Rattle.ymachine.specs.Reversible.{StepsBack, past_by, states_before}
use Rattle.ymachine.proofs.Pasts.{states_before-push}
use Rattle.ymachine.proofs.journal.Journal.back.Goals as goal

pub returns-in-Some : goal.returns-in-Some
returns-in-Some g c =
    let before = g.M.Reversible.before in
    let kind = g.M.Reversible.kind in
    let now = c.self.inside.machine in
    let change = c.in-Some.change in
    let left = c.pop.new.self.items in
    let e : c.self.inside.changes.items ≡ left ++ change ∷ [] = search rules in
    subst (λ h. StepsBack {E = Unit {0}} h (Ok tt) (past_by before kind c.revert.new.self left))
    c.self.view_is (
      kind change,
      ap (states_before before kind now) e ∙ (states_before-push before kind now left change
          ∙ ap (λ m. (kind change, m) ∷ states_before before kind m left) (sym c.revert.ensures)),
    )
