-- The states of a stack, where a symbol is pushed, and where the ones on top go.
use Rattle.std.proofs.Common.{ℕ, zero, suc, ◌≡◌, ◌≤◌, ◌+◌, ◌-◌, ◌⊎◌, inl, inr, List, [], ◌∷◌}
use Rattle.std.proofs.Common.{◌++◌, Option, Some, length, take, get_or, refl, sym, ◌∙◌, ap, arith}
use Rattle.std.proofs.Math.Seq.{take-length, get_or-append_seam}
use Rattle.std.proofs.lemmas.List.{length-append, take-append-le, take-take, get_or-take}
use Rattle.std.proofs.lemmas.List.{get_or_append_left}
use Rattle.ytables.specs.Tables.{TablesValue as Tables}
use Rattle.ymachine.specs.Machine.{without_last}
use Rattle.ymachine.specs.Tables.{goto_at, goto_from, walk, state_after}
use Rattle.ymachine.proofs.Ends.{length-without_last}
use Rattle.ysession.specs.States.{top_of, AreStates}

pub at_or_below : (n m : ℕ) → n ≤ m + 1 → (n ≤ m) ⊎ (n ≡ m + 1)
at_or_below n m h = grind arith

abbrev pub some : ℕ → Option ℕ
some n = Some n

module _ (t : Tables) where
  pub walk-append : (q : Option ℕ) (xs ys : List ℕ) → walk t q (xs ++ ys) ≡ walk t (walk t q xs) ys
  walk-append q [] ys = refl
  walk-append q (x ∷ xs) ys = walk-append (goto_from t q x) xs ys

  -- no symbols
  pub no_symbols : AreStates t [] (0 ∷ [])
  no_symbols = record { many = refl; each = at }
    where
      at : (n : ℕ) → n ≤ 0 → state_after t (take n []) ≡ some (get_or (0 ∷ []) n 0)
      at zero h = refl
      at (suc n) h = absurd (omega (arith, h))

  module _ (stack states : List ℕ) (a : AreStates t stack states) where
    -- the state of the whole stack is on top
    pub on_top : state_after t stack ≡ some (top_of states)
    on_top =
        let many = a.many in
        let e : length stack ≡ length states - 1 = omega (arith, many) in
        ap (state_after t) (sym (take-length stack))
        ∙ (a.each (length stack) (omega arith) ∙ ap (λ n. some (get_or states n 0)) e)

    pub pushed : (x to : ℕ) → goto_at t (top_of states) x ≡ some to
        → AreStates t (stack ++ x ∷ []) (states ++ to ∷ [])
    pushed x to e = record {
      many = omega (arith, a.many, length-append stack (x ∷ []), length-append states (to ∷ []));
      each = λ n h. by n (at_or_below n (length stack) (omega (
        arith,
        h,
        length-append stack (x ∷ []),
      )));
    }
      where
        by : (n : ℕ) → (n ≤ length stack) ⊎ (n ≡ length stack + 1)
            → state_after t (take n (stack ++ x ∷ [])) ≡ some (get_or (states ++ to ∷ []) n 0)
        by n (inl h) =
            ap (state_after t) (take-append-le n stack (x ∷ []) h)
            ∙ (a.each n h
            ∙ ap some (sym (get_or_append_left states (to ∷ []) 0 n (omega (arith, h, a.many)))))
        by n (inr h) =
            let l : n ≡ length (stack ++ x ∷ []) = omega (arith, h, length-append stack (x ∷ [])) in
            let k : length states ≡ n = omega (arith, h, a.many) in
            ap (λ j. state_after t (take j (stack ++ x ∷ []))) l
            ∙ (ap (state_after t) (take-length (stack ++ x ∷ []))
            ∙ (walk-append (some 0) stack (x ∷ [])
            ∙ (ap (λ q. goto_from t q x) on_top
            ∙ (e ∙ (ap some (sym (get_or-append_seam states to [] 0))
            ∙ ap (λ j. some (get_or (states ++ to ∷ []) j 0)) k)))))

    pub cut : (w : ℕ) → w ≤ length stack → AreStates t (without_last w stack) (without_last w states)
    cut w h =
        let l = length-without_last w stack in
        let k = length-without_last w states in
        let many = a.many in
        record {
          many = omega (arith, h, l, k, many);
          each = λ n i.
              ap (state_after t) (take-take n (length stack - w) stack (omega (arith, i, l)))
              ∙ (a.each n (omega (arith, i, l))
              ∙ ap some (sym (get_or-take (length states - w) states n 0
              (omega (arith, i, l, h, many)))));
        }
