use Rattle.std.proofs.Common.{ℕ, ◌≡◌, ◌<◌, ◌+◌, ◌∙◌, Some, length, take, get_or, ap, subst, sym}
use Rattle.std.proofs.lemmas.List.{get_or_default}
use Rattle.ymachine.specs.declared.parts.StackEntry.{StackEntry}
use Rattle.ymachine.specs.Content.{Place, entry, configuration_of}
use Rattle.ymachine.specs.Machine.{symbols}
use Rattle.ymachine.specs.Place.{place_of}
use Rattle.ymachine.specs.Tables.{state_after}
use Rattle.ymachine.proofs.Facts.{facts}
use Rattle.ymachine.proofs.Moves.{shown_state_at}
use Rattle.ymachine.proofs.place.PlaceParser.state_at.Goals as goal

pub returns : goal.returns
returns c =
    let p = place_of c.self.inside.tables c.self.inside.tokens c.self.inside.parts in
    let i = c.args.index in
    let inside : i < length p.content.stack =
    subst (λ (q : Place). i < length q.content.stack) (sym c.self.view_is) c.requires in
    let found : c.index.result.now ≡ get_or p.content.stack i (entry 0 0 0) =
    c.index.ensures
    ∙ get_or_default p.content.stack i c.index.result.now (entry 0 0 0) inside in
    subst (λ (q : Place). state_after q.tables (take (i + 1) (symbols (configuration_of q).stack))
    ≡ Some c.index.result.now.state) c.self.view_is
    (shown_state_at p (facts p c.self.invariant.valid) i inside
    ∙ ap (λ (e : StackEntry). Some e.state) (sym found))
