-- The states of a stack, as far as they were read.
use Rattle.std.proofs.Common.{ℕ, zero, suc, ◌≡◌, ◌≤◌, ◌+◌, ◌⊎◌, inl, inr, List, [], ◌∷◌, ◌++◌}
use Rattle.std.proofs.Common.{Some, length, take, get_or, refl, sym, ◌∙◌, ap, subst, arith}
use Rattle.std.proofs.Math.Seq.{get_or-append_seam}
use Rattle.std.proofs.lemmas.List.{length-append, get_or_append_left}
use Rattle.ytables.specs.Tables.{TablesValue as Tables}
use Rattle.ymachine.specs.Tables.{state_after}
use Rattle.ysession.specs.States.{AreStates}
use Rattle.ysession.proofs.RunStates.{at_or_below, some}

-- the states to which the first symbols lead, up to so many of them
pub record AreStatesTo (t : Tables) (stack states : List ℕ) (count : ℕ) : Type 0 where
  pub many : length states ≡ count + 1
  pub each : (n : ℕ) → n ≤ count → state_after t (take n stack) ≡ Some (get_or states n 0)

pub first_state : (t : Tables) (stack : List ℕ) → AreStatesTo t stack (0 ∷ []) 0
first_state t stack = record { many = refl; each = at }
  where
    at : (n : ℕ) → n ≤ 0 → state_after t (take n stack) ≡ some (get_or (0 ∷ []) n 0)
    at zero h = refl
    at (suc n) h = absurd (omega (arith, h))

pub state_more : (t : Tables) (stack states : List ℕ) (count q : ℕ)
    → AreStatesTo t stack states count → state_after t (take (count + 1) stack) ≡ some q
    → AreStatesTo t stack (states ++ q ∷ []) (count + 1)
state_more t stack states count q a e = record {
  many = omega (arith, a.many, length-append states (q ∷ []));
  each = λ n h. by n (at_or_below n count h);
}
  where
    by : (n : ℕ) → (n ≤ count) ⊎ (n ≡ count + 1)
        → state_after t (take n stack) ≡ some (get_or (states ++ q ∷ []) n 0)
    by n (inl h) =
        a.each n h ∙ ap some (sym (get_or_append_left states (q ∷ []) 0 n (omega (arith, h, a.many))))
    by n (inr h) =
        let k : length states ≡ n = omega (arith, h, a.many) in
        ap (λ j. state_after t (take j stack)) h
        ∙ (e ∙ (ap some (sym (get_or-append_seam states q [] 0))
        ∙ ap (λ j. some (get_or (states ++ q ∷ []) j 0)) k))

pub all_states : (t : Tables) (stack states : List ℕ) (count : ℕ) → count ≡ length stack
    → AreStatesTo t stack states count → AreStates t stack states
all_states t stack states count e a =
    subst (λ (n : ℕ). AreStatesTo t stack states n → AreStates t stack states) (sym e)
    (λ b. record { many = b.many; each = b.each }) a
