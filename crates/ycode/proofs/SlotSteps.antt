-- Bits of words as slots.
use Rattle.std.proofs.Common.{ℕ, ◌≡◌, ◌≢◌, ◌+◌, ◌-◌, ◌*◌, ◌/◌, ◌%◌, ◌^◌, ◌<◌, ◌≤◌, ◌⊎◌, inl, inr}
use Rattle.std.proofs.Common.{List, length, set, sym, ap, ◌∙◌, subst, arith, max, bit_or}
use Rattle.std.proofs.Common.{slice_index}
use Rattle.std.specs.Int.{bit_at, w64}
use Rattle.std.proofs.lemmas.Bool.{cases_eq}
use Rattle.std.proofs.lemmas.List.{get_or-set_same, get_or-set_other}
use Rattle.std.proofs.lemmas.Nat.{pow_pos, pow-add, shr-shr, shl-shr, shr_split, mod-pow-add}
use Rattle.std.proofs.lemmas.Nat.{mod_below}
use Rattle.std.proofs.lemmas.Nat.{mul-mod_first, mod-mul-add}
use Rattle.std.proofs.lemmas.Nat.Bits.{bit_at_or, bit_at_above, bit_at_cat_low, bit_at_cat_high}
use Rattle.std.proofs.lemmas.Nat.Bits.{bit_at_set_other, bit_at-lt, bit_at-zero}
use Rattle.ycode.specs.Slots.{IsTaken, MeetsTaken, IsMoved}
use Rattle.ycode.proofs.PackingSteps.{less_or_not}

-- one of two bits is set where their `|` is
pub either_bit : (a b i : ℕ) → bit_at (bit_or a b) i ≡ 1 → (bit_at a i ≡ 1) ⊎ (bit_at b i ≡ 1)
either_bit a b i e =
    let both = bit_at_or a b i in
    let low = bit_at-lt a i in
    let high = bit_at-lt b i in
    go (less_or_not (bit_at a i) 1) (omega (arith, both, e)) low high
  where
    go : (bit_at a i < 1) ⊎ (1 ≤ bit_at a i) → max (bit_at a i) (bit_at b i) ≡ 1 →
        bit_at a i < 2 → bit_at b i < 2 → (bit_at a i ≡ 1) ⊎ (bit_at b i ≡ 1)
    go (inl l) m p q = inr (omega (arith, l, m, p, q))
    go (inr l) m p q = inl (omega (arith, l, m, p, q))

plus_zero : (x : ℕ) → x + 0 ≡ x
plus_zero x = omega arith

-- the low bits of a number that was shifted
shifted : (h j k : ℕ) → (h * 2 ^ k) % 2 ^ (j + k) ≡ (h % 2 ^ j) * 2 ^ k
shifted h j k = mod-pow-add (h * 2 ^ k) j k ∙
    (ap (λ (x : ℕ). (x % 2 ^ j) * 2 ^ k + (h * 2 ^ k) % 2 ^ k) (shl-shr h k) ∙
    (ap (λ (x : ℕ). (h % 2 ^ j) * 2 ^ k + x) none ∙ plus_zero ((h % 2 ^ j) * 2 ^ k)))
  where
    none : (h * 2 ^ k) % 2 ^ k ≡ 0
    none = ap (λ (x : ℕ). x % 2 ^ k) (sym (plus_zero (h * 2 ^ k))) ∙
        mod-mul-add h (2 ^ k) 0 (pow_pos k)

low_bit : (h j i : ℕ) → i < j → bit_at (h % 2 ^ j) i ≡ bit_at h i
low_bit h j i l = sym (bit_at_cat_low (h / 2 ^ j) j (h % 2 ^ j) i l) ∙
    ap (λ (x : ℕ). bit_at x i) (shr_split h j)

assoc : (a b c : ℕ) → a * b * c ≡ a * (b * c)
assoc a b c = grind arith

-- a word that was shifted up by one and then by the rest of the way
twice_shifted : (h s : ℕ) → s < 64 →
    ((h * 2 ^ 1) % 2 ^ 64 * 2 ^ (63 - s)) % 2 ^ 64 ≡ (h % 2 ^ s) * 2 ^ (64 - s)
twice_shifted h s l =
    let rest : 1 + (63 - s) ≡ 64 - s = omega arith in
    let all : s + (64 - s) ≡ 64 = omega arith in
    mul-mod_first (h * 2 ^ 1) (2 ^ (63 - s)) (2 ^ 64) ∙
    (ap (λ (x : ℕ). x % 2 ^ 64) (assoc h (2 ^ 1) (2 ^ (63 - s)) ∙
    ap (λ (x : ℕ). h * x) (sym (pow-add 2 1 (63 - s)) ∙ ap (λ (x : ℕ). 2 ^ x) rest)) ∙
    (ap (λ (x : ℕ). (h * 2 ^ (64 - s)) % 2 ^ x) (sym all) ∙ shifted h s (64 - s)))

module _ (words : List ℕ) (at i : ℕ) (l : i < 64) where
  pub from_low : slice_index words (at / 64) < 2 ^ 64 →
      bit_at (slice_index words (at / 64) / 2 ^ (at % 64)) i ≡ 1 → IsTaken words (at + i)
  from_low small e = go (less_or_not (at % 64 + i) 64)
    where
      there : bit_at (slice_index words (at / 64)) (at % 64 + i) ≡ 1
      there = ap (λ (x : ℕ). x % 2) (sym (shr-shr (slice_index words (at / 64)) (at % 64) i)) ∙ e

      go : (at % 64 + i < 64) ⊎ (64 ≤ at % 64 + i) → IsTaken words (at + i)
      go (inl m) =
          let q : (at + i) / 64 ≡ at / 64 = omega (arith, m) in
          let r : (at + i) % 64 ≡ at % 64 + i = omega (arith, m) in
          ap (λ (x : ℕ). bit_at (slice_index words x) ((at + i) % 64)) q ∙
          (ap (bit_at (slice_index words (at / 64))) r ∙ there)
      go (inr m) = absurd (let none = bit_at_above (slice_index words (at / 64)) 64 (at % 64 + i)
          small m in omega (arith, none, there))

  pub from_high : bit_at ((slice_index words (at / 64 + 1) % 2 ^ (at % 64)) * 2 ^ (64 - at % 64)) i ≡ 1
      → IsTaken words (at + i)
  from_high e = go (less_or_not i (64 - at % 64))
    where
      split : bit_at ((slice_index words (at / 64 + 1) % 2 ^ (at % 64)) * 2 ^ (64 - at % 64) + 0) i ≡ 1
      split = ap (λ (x : ℕ). bit_at x i) (plus_zero ((slice_index words (at / 64 + 1) %
          2 ^ (at % 64)) * 2 ^ (64 - at % 64))) ∙ e

      below : at % 64 < 64
      below = mod_below at 64 (omega arith)

      go : (i < 64 - at % 64) ⊎ (64 - at % 64 ≤ i) → IsTaken words (at + i)
      go (inl m) = absurd (let z = bit_at_cat_low (slice_index words (at / 64 + 1) % 2 ^ (at % 64))
          (64 - at % 64) 0 i m in let none = bit_at-zero i in omega (arith, z, none, split))
      go (inr m) =
          let high = bit_at_cat_high (slice_index words (at / 64 + 1) % 2 ^ (at % 64)) (64 - at % 64)
          0 i (pow_pos (64 - at % 64)) m in
          let low = low_bit (slice_index words (at / 64 + 1)) (at % 64) (i - (64 - at % 64))
          (omega (arith, m, l, below)) in
          let q : (at + i) / 64 ≡ at / 64 + 1 = omega (arith, m, l, below) in
          let r : (at + i) % 64 ≡ i - (64 - at % 64) = omega (arith, m, l, below) in
          ap (λ (x : ℕ). bit_at (slice_index words x) ((at + i) % 64)) q ∙
          (ap (bit_at (slice_index words (at / 64 + 1))) r ∙ (sym low ∙ (sym high ∙ split)))

-- one slot is marked
pub mark_is : (old grown new : List ℕ) (at : ℕ) →
    ((k : ℕ) → slice_index grown k ≡ slice_index old k) → at / 64 < length grown →
    new ≡ set grown (at / 64)
    (bit_or (slice_index grown (at / 64)) ((1 * 2 ^ (at % 64)) % 2 ^ 64)) → (i : ℕ) →
    IsTaken new i → (i ≡ at) ⊎ IsTaken old i
mark_is old grown new at same l e i t = go (cases_eq (i / 64) (at / 64)) (cases_eq (i % 64) (at % 64))
  where
    below : at % 64 < 64
    below = mod_below at 64 (omega arith)

    go : (i / 64 ≡ at / 64) ⊎ (i / 64 ≢ at / 64) → (i % 64 ≡ at % 64) ⊎ (i % 64 ≢ at % 64) →
        (i ≡ at) ⊎ IsTaken old i
    go (inl q) (inl r) = inl (omega (arith, q, r))
    go (inl q) (inr r) = inr (
        let here : slice_index new (i / 64) ≡
        bit_or (slice_index grown (at / 64)) ((1 * 2 ^ (at % 64)) % 2 ^ 64) =
        ap (slice_index new) q ∙ (ap (λ (x : List ℕ). slice_index x (at / 64)) e ∙
        get_or-set_same grown (at / 64)
        (bit_or (slice_index grown (at / 64)) ((1 * 2 ^ (at % 64)) % 2 ^ 64)) 0 l) in
        let other = bit_at_set_other w64 (slice_index grown (at / 64)) (at % 64) below (i % 64) r in
        let word_is : slice_index old (i / 64) ≡ slice_index grown (at / 64) =
        sym (same (i / 64)) ∙ ap (slice_index grown) q in
        ap (λ (x : ℕ). bit_at x (i % 64)) word_is ∙ (sym other ∙
        (ap (λ (x : ℕ). bit_at x (i % 64)) (sym here) ∙ t)))
    go (inr q) r = inr (
        let word_is : slice_index old (i / 64) ≡ slice_index new (i / 64) =
        sym (same (i / 64)) ∙ (sym (get_or-set_other grown (at / 64) (i / 64)
        (bit_or (slice_index grown (at / 64)) ((1 * 2 ^ (at % 64)) % 2 ^ 64)) 0 q) ∙
        ap (λ (x : List ℕ). slice_index x (i / 64)) (sym e)) in
        ap (λ (x : ℕ). bit_at x (i % 64)) word_is ∙ t)

-- a bit of 64 that begin anywhere in a word
pub window_bit : (words : List ℕ) (at low high i : ℕ) → i < 64 → low ≡ slice_index words (at / 64) →
    high ≡ slice_index words (at / 64 + 1) → low < 2 ^ 64 → bit_at (bit_or (low / 2 ^ (at % 64))
    (((high * 2) % 2 ^ 64 * 2 ^ (63 - at % 64)) % 2 ^ 64)) i ≡ 1 → IsTaken words (at + i)
window_bit words at low high i l a b small e = go (either_bit (low / 2 ^ (at % 64))
    (((high * 2) % 2 ^ 64 * 2 ^ (63 - at % 64)) % 2 ^ 64) i e)
  where
    go : (bit_at (low / 2 ^ (at % 64)) i ≡ 1) ⊎
        (bit_at (((high * 2) % 2 ^ 64 * 2 ^ (63 - at % 64)) % 2 ^ 64) i ≡ 1) → IsTaken words (at + i)
    go (inl x) = from_low words at i l (omega (arith, a, small))
        (subst (λ (w : ℕ). bit_at (w / 2 ^ (at % 64)) i ≡ 1) a x)
    go (inr x) = from_high words at i l
        (subst (λ (w : ℕ). bit_at ((w % 2 ^ (at % 64)) * 2 ^ (64 - at % 64)) i ≡ 1) b
        (ap (λ (y : ℕ). bit_at y i)
        (sym (twice_shifted high (at % 64) (mod_below at 64 (omega arith)))) ∙ x))

-- the bits of one column more
pub blocked_more : (words columns : List ℕ) (d k a b : ℕ) → k < length columns →
    ((i : ℕ) → i < 64 → bit_at a i ≡ 1 → MeetsTaken words columns (d + i)) →
    ((i : ℕ) → i < 64 → bit_at b i ≡ 1 → IsTaken words (d + slice_index columns k + i)) → (i : ℕ) →
    i < 64 → bit_at (bit_or a b) i ≡ 1 → MeetsTaken words columns (d + i)
blocked_more words columns d k a b l f g i m e = go (either_bit a b i e)
  where
    go : (bit_at a i ≡ 1) ⊎ (bit_at b i ≡ 1) → MeetsTaken words columns (d + i)
    go (inl x) = f i m x
    go (inr x) =
        let at : d + slice_index columns k + i ≡ d + i + slice_index columns k = omega arith in
        (k, l, subst (IsTaken words) at (g i m x))

-- the slots of one column more
pub marked_more : (columns : List ℕ) (d k : ℕ) (first old new : List ℕ) → k < length columns →
    ((i : ℕ) → IsTaken new i → (i ≡ d + slice_index columns k) ⊎ IsTaken old i) →
    ((i : ℕ) → IsTaken old i → IsMoved columns d i ⊎ IsTaken first i) → (i : ℕ) → IsTaken new i →
    IsMoved columns d i ⊎ IsTaken first i
marked_more columns d k first old new l f g i t = go (f i t)
  where
    go : (i ≡ d + slice_index columns k) ⊎ IsTaken old i → IsMoved columns d i ⊎ IsTaken first i
    go (inl e) = inl (k, l, e)
    go (inr o) = g i o
