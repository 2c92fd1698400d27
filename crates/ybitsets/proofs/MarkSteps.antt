-- Lists of marks.
use Rattle.std.proofs.Common.{ℕ, Bool, true, false, ◌≡◌, ◌≢◌, ◌<◌, ◌⊎◌, List, length, replicate}
use Rattle.std.proofs.Common.{sym}
use Rattle.std.proofs.Common.{◌∙◌, ap, subst, inl, inr, arith, get_or-set_same, get_or-set_other}
use Rattle.std.proofs.Math.ListN.{set, length-set}
use Rattle.std.proofs.lemmas.Grind.{common_steps}
use Rattle.ybitsets.specs.Marks.{Has}
use Rattle.std.proofs.lemmas.Bool.{cases_eq}

pub marked_cases : (m : List Bool) (i s : ℕ) → Has (set m i true) s → (s ≡ i) ⊎ Has m s
marked_cases m i s h = go (cases_eq s i)
  where
    go : (s ≡ i) ⊎ (s ≢ i) → (s ≡ i) ⊎ Has m s
    go (inl e) = inl e
    go (inr e) = inr (sym (get_or-set_other m i s true false e) ∙ h)

pub none_marked : (n s : ℕ) → Has (replicate n false) s → ⊥
none_marked n s h = grind (arith, common_steps)

pub mark_size : (m n : List Bool) (p : ℕ) → n ≡ set m p true → length n ≡ length m
mark_size m n p e = ap (λ (x : List Bool). length x) e ∙ length-set m p true

pub kept_marked : (m n : List Bool) (p q : ℕ) → p < length m → n ≡ set m p true → Has m q →
    Has n q
kept_marked m n p q h e c = subst (λ (x : List Bool). Has x q) (sym e) (go (cases_eq q p))
  where
    go : (q ≡ p) ⊎ (q ≢ p) → Has (set m p true) q
    go (inl z) = subst (Has (set m p true)) (sym z) (get_or-set_same m p true false h)
    go (inr z) = get_or-set_other m p q true false z ∙ c
