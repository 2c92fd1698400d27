-- The states beside the entries of a stack are those to which its symbols lead.
use Rattle.std.proofs.Common.{ℕ, zero, suc, ◌≡◌, ◌<◌, ◌≤◌, ◌-◌, true, false, List, [], ◌∷◌, ◌++◌}
use Rattle.std.proofs.Common.{Option, Some, None, length, take, map, get_or, refl, ◌∙◌, ap, subst}
use Rattle.std.proofs.Common.{arith}
use Rattle.std.proofs.lemmas.Bool.{eqb-true, eq-eqb}
use Rattle.ytables.specs.Tables.{TablesValue as Tables}
use Rattle.ymachine.specs.declared.parts.StackEntry.{StackEntry}
use Rattle.ymachine.specs.Tables.{goto_at, walk}
use Rattle.ymachine.specs.Content.{entry, state_from, is_state, leads}
use Rattle.ymachine.proofs.Ends.{join, first, second}

state_is : (o : Option ℕ) (q : ℕ) → is_state o q ≡ true → o ≡ Some q
state_is None q h = let bad : false ≡ true = h in cc
state_is (Some found) q h = ap (λ (n : ℕ). let o : Option ℕ = Some n in o) (eqb-true found q h)

is_state-some : (o : Option ℕ) (q : ℕ) → o ≡ Some q → is_state o q ≡ true
is_state-some o q e = ap (λ (x : Option ℕ). is_state x q) e ∙ eq-eqb q q refl

module _ (t : Tables) where
  -- the symbols of a stack lead to the state on top
  pub leads_walk : (q : ℕ) (stack : List StackEntry) → leads t q stack ≡ true
      → walk t (Some q) (map (λ (e : StackEntry). e.symbol) stack)
      ≡ Some (state_from q (length stack) stack)
  leads_walk q [] h = refl
  leads_walk q (e ∷ stack) h =
      ap (λ (o : Option ℕ). walk t o (map (λ (x : StackEntry). x.symbol) stack))
      (state_is (goto_at t q e.symbol) e.state (first _ _ h))
      ∙ leads_walk e.state stack (second _ _ h)

  -- and its first n symbols to the state after them
  pub leads_walk_to : (q n : ℕ) (stack : List StackEntry) → n ≤ length stack
      → leads t q stack ≡ true
      → walk t (Some q) (take n (map (λ (e : StackEntry). e.symbol) stack))
      ≡ Some (state_from q n stack)
  leads_walk_to q zero stack l h = refl
  leads_walk_to q (suc n) [] l h = absurd (omega (arith, l))
  leads_walk_to q (suc n) (e ∷ stack) l h =
      ap (λ (o : Option ℕ). walk t o (take n (map (λ (x : StackEntry). x.symbol) stack)))
      (state_is (goto_at t q e.symbol) e.state (first _ _ h))
      ∙ leads_walk_to e.state n stack (omega (arith, l)) (second _ _ h)

  pub leads-push : (q : ℕ) (stack : List StackEntry) (symbol to number : ℕ) → leads t q stack ≡ true
      → goto_at t (state_from q (length stack) stack) symbol ≡ Some to
      → leads t q (stack ++ entry to symbol number ∷ []) ≡ true
  leads-push q [] symbol to number h e = join (is_state-some (goto_at t q symbol) to e) refl
  leads-push q (x ∷ stack) symbol to number h e =
      join (first _ _ h) (leads-push x.state stack symbol to number (second _ _ h) e)

  pub leads-take : (q n : ℕ) (stack : List StackEntry) → leads t q stack ≡ true
      → leads t q (take n stack) ≡ true
  leads-take q zero stack h = refl
  leads-take q (suc n) [] h = refl
  leads-take q (suc n) (e ∷ stack) h =
      join (first _ _ h) (leads-take e.state n stack (second _ _ h))

pub state_from-last : (q n : ℕ) (stack : List StackEntry) → n < length stack
    → state_from q (suc n) stack ≡ (get_or stack n (entry 0 0 0)).state
state_from-last q n [] h = absurd (omega arith)
state_from-last q zero (e ∷ stack) h = refl
state_from-last q (suc n) (e ∷ stack) h = state_from-last e.state n stack (omega arith)

pub state_from-count : (n : ℕ) (stack : List StackEntry) → n ≤ length stack → 0 < n
    → state_from 0 n stack ≡ (get_or stack (n - 1) (entry 0 0 0)).state
state_from-count zero stack h p = absurd (omega arith)
state_from-count (suc n) stack h p =
    let e : n ≡ suc n - 1 = omega arith in
    subst (λ (k : ℕ). state_from 0 (suc n) stack ≡ (get_or stack k (entry 0 0 0)).state) e
    (state_from-last 0 n stack (omega (arith, h)))

pub state_from-zero : (n : ℕ) (stack : List StackEntry) → n ≡ 0 → state_from 0 n stack ≡ 0
state_from-zero n stack e = ap (λ (k : ℕ). state_from 0 k stack) e

pub ruleset state_rules = (state_from-count, state_from-zero)
