-- Tables are what a parser by them rests on.
use Rattle.std.proofs.Common.{ℕ, ◌≡◌, ◌≢◌, ◌<◌, ◌≤◌, ◌+◌, List, [], ◌∷◌, ◌++◌, length, reverse}
use Rattle.std.proofs.Common.{refl, sym, ◌∙◌, ap, subst, arith, Some}
use Rattle.std.specs.Prelude.{IsSome}
use Rattle.std.proofs.lemmas.List.{reverse-reverse, length-append}
use Rattle.ysymbols.specs.Grammar.{left_of, body_of, end_token}
use Rattle.ysymbols.specs.WellFormed.{WellFormed}
use Rattle.ylalr.specs.Collection.{HasStates, bare_of}
use Rattle.ytables.specs.declared.cell.Action.TheVariants as actions
use Rattle.ytables.specs.Allowed.{CellsAllow}
use Rattle.ytables.specs.Tables.{TablesValue as Tables}
use Rattle.ymachine.specs.Machine.{without_last}
use Rattle.ymachine.specs.MachineOver.{move_of}
use Rattle.ymachine.specs.Tables.{rule_of, goto_at, cell_at, state_after}
use Rattle.ymachine.specs.Sound.{Sound}
use Rattle.ymachine.proofs.Prefixes.{reverse_push, Viable, viable_expected, handle}
use Rattle.ymachine.proofs.StepKinds.{without_last_append}
use Rattle.ymachine.proofs.Machines.{LeadsIn, Licensed, leads, leads_on}
use Rattle.ymachine.proofs.Machines.{leads_some, licensed_state}

pub sound : (t : Tables) → WellFormed (bare_of t.built) → HasStates t.built → CellsAllow t → Sound t
sound t w s c = record { shift = at_shift; reduce = at_reduce }
  where
    at_shift : (stack : List ℕ) (q token to : ℕ) → state_after t stack ≡ Some q
        → cell_at t q token ≡ actions.Shift to → (token ≢ end_token) × IsSome (goto_at t q token)
    at_shift stack q token to e f =
        let x = subst (λ a. Licensed (bare_of t.built) (reverse stack) token (move_of a)) f
        (licensed_state t w s c stack q token e) in
        let l = subst (LeadsIn t (reverse stack)) e (leads t w s stack) in (
          x.inside,
          leads_some t w s (token ∷ reverse stack) (goto_at t q token)
              (leads_on t w s token (reverse stack) (Some q) l) (viable_expected x),
        )

    at_reduce : (stack : List ℕ) (q token r : ℕ) → state_after t stack ≡ Some q
        → cell_at t q token ≡ actions.Reduce r →
        (r < length t.built.grammar.bare.rules) × (length (rule_of t r).body ≤ length stack)
        × IsSome (state_after t (without_last (length (rule_of t r).body) stack
        ++ (rule_of t r).left ∷ []))
    at_reduce stack q token r e f =
        let g = bare_of t.built in
        let x = subst (λ a. Licensed g (reverse stack) token (move_of a)) f
        (licensed_state t w s c stack q token e) in
        let d = handle w x.1 in
        let p : stack ≡ reverse d.below ++ body_of g r = sym (reverse-reverse stack) ∙ d.parts in
        let n : length stack ≡ length (reverse d.below) + length (body_of g r) =
        ap length p ∙ length-append (reverse d.below) (body_of g r) in
        let z : without_last (length (body_of g r)) stack ≡ reverse d.below =
        ap (without_last (length (body_of g r))) p
        ∙ without_last_append (reverse d.below) (body_of g r) (length (body_of g r)) refl in
        let y : reverse (without_last (length (body_of g r)) stack ++ left_of g r ∷ [])
        ≡ left_of g r ∷ d.below =
        reverse_push (without_last (length (body_of g r)) stack) (left_of g r)
        ∙ ap (λ l. left_of g r ∷ l) (ap reverse z ∙ reverse-reverse d.below) in
        let after = without_last (length (body_of g r)) stack ++ left_of g r ∷ [] in
        let v : Viable g (reverse after) = subst (Viable g) (sym y) (viable_expected d.goto) in (
          d.within,
          omega (arith, n),
          leads_some t w s (reverse after) (state_after t after) (leads t w s after) v,
        )
