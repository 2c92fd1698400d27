-- One more link at the end of a row's list, and no links at all.
use Rattle.std.proofs.Common.{ℕ, zero, suc, ◌≡◌, ◌≢◌, ◌<◌, ◌⊎◌, List, [], ◌∷◌, ◌++◌, length, get_or}
use Rattle.std.proofs.Common.{refl, sym, ◌∙◌, ap, subst, inl, inr, arith, get_or-set_same}
use Rattle.std.proofs.Common.{get_or-set_other}
use Rattle.std.proofs.Math.ListN.{set, length-set}
use Rattle.std.proofs.lemmas.List.Elements.{Contains-push, Contains-push_cases}
use Rattle.std.proofs.lemmas.List.Elements.{Contains-append_left}
use Rattle.std.specs.List.{Contains, All}
use Rattle.ybitsets.specs.Links.{AreLinks, Link}
use Rattle.ybitsets.proofs.Turn.{same_default}
use Rattle.std.proofs.lemmas.Bool.{cases_eq}

module _ (l more : List (List ℕ)) (from to : ℕ) (h : from < length l)
    (e : more ≡ set l from (get_or l from [] ++ to ∷ [])) where
  at_from : (p : ℕ) → p ≡ from → get_or more p [] ≡ get_or l p [] ++ to ∷ []
  at_from p q = subst (λ k. get_or more k [] ≡ get_or l k [] ++ to ∷ []) (sym q)
      (ap (λ (v : List (List ℕ)). get_or v from []) e ∙ get_or-set_same l from
      (get_or l from [] ++ to ∷ []) [] h)

  elsewhere : (p : ℕ) → p ≢ from → get_or more p [] ≡ get_or l p []
  elsewhere p q = ap (λ (v : List (List ℕ)). get_or v p []) e ∙ get_or-set_other l from p
      (get_or l from [] ++ to ∷ []) [] q

  pub links_length : length more ≡ length l
  links_length = ap (λ (v : List (List ℕ)). length v) e ∙ length-set l from
      (get_or l from [] ++ to ∷ [])

  pub link_there : Link more from to
  link_there = subst (λ xs. Contains xs to) (sym (at_from from refl))
      (Contains-push (get_or l from []) to)

  pub link_kept : (p t : ℕ) → Link l p t → Link more p t
  link_kept p t c = go (cases_eq p from)
    where
      go : (p ≡ from) ⊎ (p ≢ from) → Link more p t
      go (inl q) = subst (λ xs. Contains xs t) (sym (at_from p q))
          (Contains-append_left (get_or l p []) (to ∷ []) t c)
      go (inr q) = subst (λ xs. Contains xs t) (sym (elsewhere p q)) c

  pub link_cases : (p t : ℕ) → Link more p t → Link l p t ⊎ ((p ≡ from) × (t ≡ to))
  link_cases p t c = go (cases_eq p from)
    where
      two : (p ≡ from) → Contains (get_or l p []) t ⊎ (to ≡ t) → Link l p t ⊎
          ((p ≡ from) × (t ≡ to))
      two q (inl d) = inl d
      two q (inr d) = inr (q, sym d)

      go : (p ≡ from) ⊎ (p ≢ from) → Link l p t ⊎ ((p ≡ from) × (t ≡ to))
      go (inl q) = two q (Contains-push_cases (get_or l p []) to t
          (subst (λ xs. Contains xs t) (at_from p q) c))
      go (inr q) = inl (subst (λ xs. Contains xs t) (elsewhere p q) c)

  pub links_push : (n : ℕ) → AreLinks n l → to < n → AreLinks n more
  links_push n a k = record {
    sized = links_length ∙ a.sized;
    within =
        λ p t c. within p t (link_cases p t c);
  }
    where
      within : (p t : ℕ) → Link l p t ⊎ ((p ≡ from) × (t ≡ to)) → t < n
      within p t (inl c) = a.within p t c
      within p t (inr c) = subst (λ i. i < n) (sym c.1) k

empty_at : (l : List (List ℕ)) (p : ℕ) → All (λ r. r ≡ []) l → get_or l p [] ≡ []
empty_at [] p a = refl
empty_at (x ∷ l) zero a = a 0 [] (omega arith)
empty_at (x ∷ l) (suc p) a = empty_at l p (λ k d h. a (suc k) d (omega arith))

pub no_link : (l : List (List ℕ)) → All (λ r. r ≡ []) l → (p t : ℕ) → Link l p t → ⊥
no_link l none p t h = let c = subst (λ xs. Contains xs t) (empty_at l p none) h in let k = c.1 in
    omega arith

pub are_links_none : (n : ℕ) (l : List (List ℕ)) → length l ≡ n → All (λ r. r ≡ []) l → AreLinks n l
are_links_none n l e none = record { sized = e; within = λ p t h. absurd (no_link l none p t h) }

pub links_below : (n : ℕ) (l : List (List ℕ)) (p : ℕ) → AreLinks n l → All (λ k. k < n)
    (get_or l p [])
links_below n l p a k d h = a.within p (get_or (get_or l p []) k d)
    (k, h, same_default (get_or l p []) k (get_or (get_or l p []) k d) d h)
