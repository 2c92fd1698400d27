-- What a form after the dot adds to a row, symbol by symbol.
use Rattle.std.proofs.Common.{ℕ, Bool, ◌≡◌, ◌<◌, ◌+◌, ◌⊎◌, List, length, take, get_or, refl, sym}
use Rattle.std.proofs.Common.{◌∙◌, ap, subst, inl, inr, arith}
use Rattle.std.specs.List.{All}
use Rattle.ybitsets.specs.Marks.{Has}
use Rattle.ybitsets.specs.Rows.{BitRows, Holds, AddsFrom}
use Rattle.ylalr.specs.Behind.{FormHas}

order : (j k : ℕ) → (j < k) ⊎ ((j ≡ k) ⊎ (k < j))
order j k = grind arith

-- the row `to` has what the first k symbols of the form begin with, all of which vanish
pub record Adding (n : List Bool) (f : BitRows) (x : List ℕ) (m o : BitRows) (to k : ℕ) : Type 0
  where
    pub sound : (r b : ℕ) → Holds o r b → Holds m r b ⊎ ((r ≡ to) × FormHas n f x b)
    pub every : (j b : ℕ) → j < k → Holds f (get_or x j 0) b → Holds o to b
    pub kept : (r b : ℕ) → Holds m r b → Holds o r b

pub adding_more : (n : List Bool) (f : BitRows) (x : List ℕ) (m o v : BitRows) (to k s : ℕ) →
    k < length x → s ≡ get_or x k 0 → All (Has n) (take k x) → AddsFrom o v to f s →
    Adding n f x m o to k → Adding n f x m v to (k + 1)
adding_more n f x m o v to k s h e p a i = record {
  sound = sound;
  every = every;
  kept = λ r b z.
      (a r b).1 (inl (i.kept r b z));
}
  where
    sound : (r b : ℕ) → Holds v r b → Holds m r b ⊎ ((r ≡ to) × FormHas n f x b)
    sound r b z = go ((a r b).0 z)
      where
        go : Holds o r b ⊎ ((r ≡ to) × Holds f s b) → Holds m r b ⊎ ((r ≡ to) × FormHas n f x b)
        go (inl w) = i.sound r b w
        go (inr w) = inr (
          w.0,
          record {
            place = k;
            within = h;
            before = p;
            there =
                subst (λ t. Holds f t b) e w.1;
          },
        )

    every : (j b : ℕ) → j < k + 1 → Holds f (get_or x j 0) b → Holds v to b
    every j b l z = go (order j k)
      where
        go : (j < k) ⊎ ((j ≡ k) ⊎ (k < j)) → Holds v to b
        go (inl w) = (a to b).1 (inl (i.every j b w z))
        go (inr (inl w)) = (a to b).1
            (inr (refl, subst (λ t. Holds f t b) (ap (λ t. get_or x t 0) w ∙ sym e) z))
        go (inr (inr w)) = absurd (omega arith)
