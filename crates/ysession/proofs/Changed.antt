-- The kinds of the changes of a journal are those of its steps.
use Rattle.std.proofs.Common.{ℕ, ◌≡◌, List, [], ◌∷◌, ◌++◌, map, reverse, refl, sym, ap, ◌∙◌}
use Rattle.std.specs.Prelude.{slice_get}
use Rattle.std.specs.Option.{option_map}
use Rattle.std.proofs.lemmas.List.{map-append, reverse-append, reverse-reverse}
use Rattle.std.proofs.lemmas.Option.{slice_get-map}
use Rattle.ymachine.specs.declared.machine.StepKind.{StepKind}
use Rattle.ymachine.specs.declared.parts.PlaceChange.{PlaceChange}
use Rattle.ymachine.specs.Content.{Place}
use Rattle.ymachine.specs.Past.{Past, kinds_of}
use Rattle.ymachine.specs.Shown.{step_view, past_view}

map-reverse : {X Y : Type 0} (f : X → Y) (xs : List X) → map f (reverse xs) ≡ reverse (map f xs)
map-reverse f [] = refl
map-reverse f (x ∷ xs) =
    ap (map f) (reverse-append (x ∷ []) xs)
    ∙ map-append f (reverse xs) (x ∷ [])
    ∙ ap (λ l. l ++ f x ∷ []) (map-reverse f xs)
    ∙ sym (reverse-append (f x ∷ []) (map f xs))

-- a step that is shown has its kind
shown-kinds : (steps : List (StepKind × Place))
    → map (λ step. step.0) (map step_view steps) ≡ map (λ step. step.0) steps
shown-kinds [] = refl
shown-kinds (step ∷ steps) = ap (λ l. step.0 ∷ l) (shown-kinds steps)

-- the kinds of changes, the oldest first, are those of the steps that stand
pub changed-kinds : (changes : List PlaceChange) (past : Past StepKind Place)
    → map (λ (change : PlaceChange). change.kind) (reverse changes)
    ≡ map (λ step. step.0) past.earlier
    → map (λ (change : PlaceChange). change.kind) changes ≡ kinds_of (past_view past)
changed-kinds changes past e =
    ap (map (λ (change : PlaceChange). change.kind)) (sym (reverse-reverse changes))
    ∙ map-reverse (λ (change : PlaceChange). change.kind) (reverse changes)
    ∙ ap reverse (e ∙ sym (shown-kinds past.earlier))

-- so is the kind of one of them
pub kind_found : (changes : List PlaceChange) (past : Past StepKind Place) (index : ℕ)
    → map (λ (change : PlaceChange). change.kind) (reverse changes)
    ≡ map (λ step. step.0) past.earlier
    → option_map (λ (change : PlaceChange). change.kind) (slice_get changes index)
    ≡ slice_get (kinds_of (past_view past)) index
kind_found changes past index e =
    sym (slice_get-map (λ (change : PlaceChange). change.kind) changes index)
    ∙ ap (λ l. slice_get l index) (changed-kinds changes past e)
