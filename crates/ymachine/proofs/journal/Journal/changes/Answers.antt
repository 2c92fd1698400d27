use Rattle.std.proofs.Common.{ap, map, reverse, ◌∙◌}
use Rattle.ymachine.proofs.Pasts.{kinds_before}
use Rattle.ymachine.proofs.journal.Journal.changes.Goals as goal

pub returns-clause-kinds : goal.returns-clause-kinds
returns-clause-kinds g c =
    let kind = g.M.Reversible.kind in
    ap (λ xs. map kind (reverse xs)) c.deref.ensures.value
    ∙ kinds_before g.M.Reversible.before kind c.self.inside.machine c.self.inside.changes.items
    ∙ ap (λ h. map (λ step. step.0) h.earlier) c.self.view_is
