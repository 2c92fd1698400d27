use Rattle.std.proofs.Common.{ℕ, ◌≡◌, ◌∙◌, Some, ap, subst, sym}
use Rattle.ymachine.specs.Content.{Place, configuration_of, state_from, top_state}
use Rattle.ymachine.specs.Machine.{symbols}
use Rattle.ymachine.specs.Place.{place_of}
use Rattle.ymachine.specs.Tables.{state_after}
use Rattle.ymachine.proofs.Facts.{facts}
use Rattle.ymachine.proofs.Moves.{shown_state}
use Rattle.ymachine.proofs.place.PlaceParser.state.Goals as goal

pub returns : goal.returns
returns c =
    let p = place_of c.self.inside.tables c.self.inside.tokens c.self.inside.parts in
    let top : c.state_below.result ≡ top_state p.content.stack =
    c.state_below.ensures
    ∙ ap (λ (n : ℕ). state_from 0 n c.deref.result.now) (c.len.ensures ∙ sym c.deref.ensures.len)
    ∙ ap top_state c.deref.ensures.value in
    subst (λ (q : Place). state_after q.tables (symbols (configuration_of q).stack)
    ≡ Some c.state_below.result) c.self.view_is
    (shown_state p (facts p c.self.invariant.valid) ∙ ap Some (sym top))
