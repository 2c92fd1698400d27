-- Lines of a range of numbers, which are sent one after another.
use Rattle.std.proofs.Common.{ℕ, zero, suc, ◌≡◌, ◌+◌, ◌<◌, ◌++◌, ◌∷◌, true, false}
use Rattle.std.proofs.Common.{List, [], Option, None, is_some, flat_map, length, get_or, take, refl}
use Rattle.std.proofs.Common.{sym, ap, ◌∙◌, subst, arith, append-nil, append_assoc, length-append}
use Rattle.std.specs.List.{range_with_len}
use Rattle.std.proofs.lemmas.List.FromFn.{length-range_with_len, get_or-range_with_len}
use Rattle.std.proofs.Math.Seq.{get_or-append_seam}
use Rattle.ylink.specs.declared.link.Link.{Link}
use Rattle.ylink.specs.Sends.{Sends}
use Rattle.ylink.proofs.Sent.{Sends-then, Sends-part, flat_map-append}

pub range_suc : (a n : ℕ) → range_with_len a (suc n) ≡ range_with_len a n ++ (a + n) ∷ []
range_suc a zero = ap (λ x. x ∷ []) (omega arith)
range_suc a (suc n) =
    let e : (a + 1) + n ≡ a + suc n = omega arith in
    ap (λ l. a ∷ l) (range_suc (a + 1) n ∙ ap (λ x. range_with_len (a + 1) n ++ x ∷ []) e)

pub range_more : (a n j : ℕ) → a + n ≡ j → range_with_len a (n + 1) ≡ range_with_len a n ++ j ∷ []
range_more a n j e =
    let one : n + 1 ≡ suc n = omega arith in
    ap (range_with_len a) one ∙ range_suc a n ∙ ap (λ x. range_with_len a n ++ x ∷ []) e

take_range : (a n k : ℕ) → k < n → take k (range_with_len a n) ≡ range_with_len a k
take_range a n zero h = refl
take_range a zero (suc k) h = absurd (omega arith)
take_range a (suc n) (suc k) h = ap (λ l. a ∷ l) (take_range (a + 1) n k (omega arith))

module _ {W : Type 0} (contents : W → Option (List ℕ)) (f : ℕ → List ℕ) (base : ℕ) where
  -- the lines before number k were sent, and that one was cut
  pub range_cut : {X : Type 0} (a b c : Link W) (o : Option X) (n k j : ℕ) → o ≡ None → k < n →
      base + k ≡ j → Sends contents a b true (flat_map f (range_with_len base k)) →
      Sends contents b c false (f j) → Sends contents a c (is_some o)
      (flat_map f (range_with_len base n))
  range_cut a b c o n k j e h g s t =
      let l : k < length (range_with_len base n) = (let z = length-range_with_len base n in
      omega (arith, z, h)) in
      let x : get_or (range_with_len base n) k 0 ≡ j = get_or-range_with_len base n k 0 h ∙ g in
      Sends-part contents f a b c (is_some o) (range_with_len base n) k 0 (ap is_some e) l
      (subst (λ ks. Sends contents a b true (flat_map f ks)) (sym (take_range base n k h)) s)
      (subst (λ i. Sends contents b c false (f i)) (sym x) t)

  -- the lines before number k were sent, and that one too
  pub range_sent : (a b c : Link W) (k j : ℕ) → base + k ≡ j → Sends contents a b true
      (flat_map f (range_with_len base k)) → Sends contents b c true (f j) → Sends contents a c true
      (flat_map f (range_with_len base (k + 1)))
  range_sent a b c k j g s t =
      let e : flat_map f (range_with_len base (k + 1)) ≡ flat_map f (range_with_len base k) ++ f j =
      ap (flat_map f) (range_more base k j g) ∙ flat_map-append f (range_with_len base k)
      (j ∷ []) ∙ ap (λ l. flat_map f (range_with_len base k) ++ l) (append-nil (f j)) in
      subst (λ ys. Sends contents a c true ys) (sym e)
      (Sends-then contents a b c true (flat_map f (range_with_len base k)) (f j) s t)

module _ {X : Type 0} (f : X → List ℕ) (d : X) where
  by_index_from : (ys xs : List X) → flat_map (λ k. f (get_or (ys ++ xs) k d))
      (range_with_len (length ys) (length xs)) ≡ flat_map f xs
  by_index_from ys [] = refl
  by_index_from ys (x ∷ xs) =
      let here : get_or (ys ++ x ∷ xs) (length ys) d ≡ x = get_or-append_seam ys x xs d in
      let after : flat_map (λ k. f (get_or (ys ++ x ∷ xs) k d))
      (range_with_len (length ys + 1) (length xs)) ≡ flat_map f xs =
      subst (λ (l : List X). flat_map (λ k. f (get_or l k d)) (range_with_len (length ys + 1)
      (length xs)) ≡ flat_map f xs) (append_assoc ys (x ∷ []) xs)
      (subst (λ n. flat_map (λ k. f (get_or ((ys ++ x ∷ []) ++ xs) k d)) (range_with_len n
      (length xs)) ≡ flat_map f xs) (length-append ys (x ∷ []))
      (by_index_from (ys ++ x ∷ []) xs)) in
      ap (λ (a : List ℕ). a ++ flat_map (λ k. f (get_or (ys ++ x ∷ xs) k d))
      (range_with_len (length ys + 1) (length xs))) (ap f here) ∙ ap (λ (l : List ℕ). f x ++ l) after

  -- a line for each element, by its index
  pub by_index : (xs : List X) → flat_map (λ k. f (get_or xs k d)) (range_with_len 0 (length xs)) ≡
      flat_map f xs
  by_index xs = by_index_from [] xs
