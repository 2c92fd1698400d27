-- How a form begins, symbol by symbol.
use Rattle.std.proofs.Common.{ℕ, zero, suc, ◌≡◌, ◌+◌, ◌<◌, List, [], ◌∷◌, ◌++◌, length, take, drop}
use Rattle.std.proofs.Common.{get_or}
use Rattle.std.proofs.Common.{refl, sym, ◌∙◌, subst, inl, inr, ◌⊎◌, arith, ap}
use Rattle.std.proofs.Math.Seq.{drop-cons}
use Rattle.std.proofs.lemmas.List.{take_more}
use Rattle.ysymbols.specs.Grammar.{ContextFree}
use Rattle.ysymbols.specs.Forms.{Nullable, First}
use Rattle.ylalr.proofs.Vanish.{Vanishes, vanishes_append, vanishes_left, vanishes_right}
use Rattle.ylalr.proofs.Vanish.{vanishes_from_nullable, nullable_from_vanishes}
use Rattle.ylalr.proofs.Begins.{Begins, begins_append, begins_past, begins_split}
use Rattle.ylalr.proofs.Begins.{begins_from_first, first_is}
use Rattle.ylalr.proofs.FirstSteps.{lr0}

module _ (g : ContextFree) (t : ℕ) where
  -- no form that is empty begins with a token
  nothing : (x : List ℕ) → x ≡ [] → Begins g t x → ⊥
  nothing (s ∷ x) e b = absurd (cc)
  nothing [] e b = elim b [ ]

  pub first_none : First g [] t → ⊥
  first_none f = nothing [] refl (begins_from_first f)

  module _ (x : List ℕ) (k : ℕ) (h : k < length x) where
    -- the symbols before place k vanish, and the one there begins with the token
    pub first_there : Nullable g (take k x) → First g (get_or x k 0 ∷ []) t → First g x t
    first_there n f = subst (λ z. First g z t) (sym (lr0 x k h))
        (first_is g t (take k x ++ get_or x k 0 ∷ drop (suc k) x) f.token
        (begins_past (vanishes_from_nullable n) (get_or x k 0 ∷ drop (suc k) x)
        (begins_append (begins_from_first f) (drop (suc k) x))))

    -- no symbol up to place k begins with it, and the one there doesn't vanish
    pub first_stops : (First g (take k x) t → ⊥) → (First g (get_or x k 0 ∷ []) t → ⊥) →
        (Nullable g (get_or x k 0 ∷ []) → ⊥) → First g x t → ⊥
    first_stops a b c f = go (begins_split (take k x) (get_or x k 0 ∷ drop (suc k) x)
        (subst (Begins g t) (lr0 x k h) (begins_from_first f)))
      where
        one : Begins g t (get_or x k 0 ∷ []) ⊎ (Vanishes g (get_or x k 0 ∷ []) × Begins g t
            (drop (suc k) x)) → ⊥
        one (inl p) = b (first_is g t (get_or x k 0 ∷ []) f.token p)
        one (inr p) = c (nullable_from_vanishes p.0)

        go : Begins g t (take k x) ⊎ (Vanishes g (take k x) × Begins g t
            (get_or x k 0 ∷ drop (suc k) x)) → ⊥
        go (inl p) = a (first_is g t (take k x) f.token p)
        go (inr p) = one (begins_split (get_or x k 0 ∷ []) (drop (suc k) x) p.1)

    pub null_stops : (Nullable g (get_or x k 0 ∷ []) → ⊥) → Nullable g x → ⊥
    null_stops c n = c (nullable_from_vanishes (vanishes_left (get_or x k 0 ∷ []) (drop (suc k) x)
        (vanishes_right (take k x) (get_or x k 0 ∷ drop (suc k) x)
        (subst (λ z. Vanishes g z) (lr0 x k h) (vanishes_from_nullable n)))))

    -- one symbol more
    pub null_more : Nullable g (take k x) → Nullable g (get_or x k 0 ∷ []) →
        Nullable g (take (k + 1) x)
    null_more a b = subst (λ z. Nullable g z) (sym (take_more x k 0 h))
        (nullable_from_vanishes (vanishes_append (vanishes_from_nullable a) (get_or x k 0 ∷ [])
        (vanishes_from_nullable b)))

    pub first_more : (First g (take k x) t → ⊥) → (First g (get_or x k 0 ∷ []) t → ⊥) →
        First g (take (k + 1) x) t → ⊥
    first_more a b f = go (begins_split (take k x) (get_or x k 0 ∷ [])
        (subst (Begins g t) (take_more x k 0 h) (begins_from_first f)))
      where
        go : Begins g t (take k x) ⊎ (Vanishes g (take k x) × Begins g t (get_or x k 0 ∷ [])) → ⊥
        go (inl p) = a (first_is g t (take k x) f.token p)
        go (inr p) = b (first_is g t (get_or x k 0 ∷ []) f.token p.1)

-- what stands after the symbol at a dot
pub after_there : (x : List ℕ) (d s : ℕ) → d < length x → get_or x d 0 ≡ s →
    drop d x ≡ s ∷ drop (d + 1) x
after_there x d s h e = drop-cons x d 0 h ∙ ap (λ z. z ∷ drop (suc d) x) e ∙ ap
    (λ k. s ∷ drop k x) (let q : suc d ≡ d + 1 = omega arith in q)

pub after_only : (x : List ℕ) (d s : ℕ) (y : List ℕ) → drop d x ≡ s ∷ y → y ≡ drop (suc d) x
after_only [] zero s y e = absurd (cc)
after_only [] (suc d) s y e = absurd (cc)
after_only (b ∷ x) zero s y e = let q : x ≡ y = cc in sym q
after_only (b ∷ x) (suc d) s y e = after_only x d s y e
