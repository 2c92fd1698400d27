-- The places of all sites of some kind, by the list of those sites.
use Rattle.std.proofs.Common.{ℕ, ◌≡◌, inl, inr, Bool, true, false, List, [], ◌∷◌, ◌++◌, map}
use Rattle.std.proofs.Common.{Option, Some, None, cond, filter, refl, sym, ap, subst, ◌∙◌}
use Rattle.std.specs.List.{AllByRecursion}
use Rattle.std.specs.Prelude.{slice_get}
use Rattle.ydeclarations.specs.Places.{AllAt, FirstAt, select}
use Rattle.ydeclarations.proofs.PlaceSteps.{Shows, by_test, no_other}
use Rattle.ysyntax.specs.Sites.{Role, Site, each}

pub all_behind : (P : Role → Type 0) (ds rs : List Site) (ps : List ℕ) →
    AllByRecursion (λ s. P s.role → ⊥) ds → AllAt P rs ps → AllAt P (ds ++ rs) ps
all_behind P [] rs ps a h = h
all_behind P (d ∷ ds) rs ps a h = inr (a.0, all_behind P ds rs ps a.1 h)

-- the first of all is the first
pub all_first : (P : Role → Type 0) (ss : List Site) (ps : List ℕ) (at : ℕ) → AllAt P ss ps →
    FirstAt P ss at → slice_get ps 0 ≡ Some at
all_first P [] ps at a f = absurd f
all_first P (s ∷ ss) ps at (inl (p, (rest, e, a))) (inl (q, w)) =
    ap (λ (z : List ℕ). slice_get z 0) e ∙ ap (λ (z : ℕ). slice_get (z ∷ rest) 0) (sym w)
all_first P (s ∷ ss) ps at (inl (p, a)) (inr (n, f)) = absurd (n p)
all_first P (s ∷ ss) ps at (inr (n, a)) (inl (p, w)) = absurd (n p)
all_first P (s ∷ ss) ps at (inr (n, a)) (inr (m, f)) = all_first P ss ps at a f

-- the places of some of the things are those of what is seen of them
filter_seen : {X A : Type 0} (p : A → Bool) (v : X → A) (place : X → ℕ) (xs : List X) →
    map place (filter (λ x. p (v x)) xs)
    ≡ map (λ (y : A × ℕ). y.1) (filter (λ y. p y.0) (map (λ x. (v x, place x)) xs))
filter_seen p v place [] = refl
filter_seen p v place (x ∷ xs) = by_test (map place) (map (λ y. y.1)) (p (v x))
    _ _ _ _ (ap (λ z. place x ∷ z) (filter_seen p v place xs)) (filter_seen p v place xs)

module _ {A : Type 0} (f : Role → Option A) (p : A → Bool) (P : Role → Type 0)
    (yes : (r : Role) (x : A) → f r ≡ Some x → p x ≡ true → P r) where
  abbrev all_of : List (A × ℕ) → List ℕ
  all_of ys = map (λ y. y.1) (filter (λ y. p y.0) ys)

  all_in : (ss : List Site) → AllByRecursion (Shows f p P) ss → AllAt P ss (all_of (select f ss))
  all_in [] a = refl
  all_in (s ∷ ss) a = go (f s.role) refl (all_in ss a.1)
    where
      pick : (x : A) → f s.role ≡ Some x → (b : Bool) → p x ≡ b →
          AllAt P ss (all_of (select f ss)) →
          AllAt P (s ∷ ss) (map (λ (y : A × ℕ). y.1) (cond b
          ((x, s.at) ∷ filter (λ y. p y.0) (select f ss)) (filter (λ y. p y.0) (select f ss))))
      pick x e true t again = inl (yes s.role x e t, (all_of (select f ss), refl, again))
      pick x e false t again =
          inr (λ q. let (y, g, u) = a.0 q in no_other f p s.role x y e g t u, again)

      go : (o : Option A) → f s.role ≡ o → AllAt P ss (all_of (select f ss)) →
          AllAt P (s ∷ ss) (all_of (each (λ x. (x, s.at) ∷ []) o ++ select f ss))
      go None e again = inr (
        λ q. let (y, g, u) = a.0 q in
            let w : None ≡ Some y = sym e ∙ g in cc,
        again,
      )
      go (Some x) e again = pick x e (p x) refl again

  module _ {X : Type 0} (v : X → A) (place : X → ℕ) (xs now : List X) (ps : List ℕ)
      (ss : List Site) (same : now ≡ xs) (seen : map (λ x. (v x, place x)) xs ≡ select f ss)
      (is : ps ≡ map place (filter (λ x. p (v x)) now))
      (all : AllByRecursion (Shows f p P) ss) where
    -- what a search finds are all sites at fault
    pub all_found : AllAt P ss ps
    all_found = subst (AllAt P ss) (sym (is
        ∙ ap (λ (z : List X). map place (filter (λ x. p (v x)) z)) same
        ∙ filter_seen p v place xs ∙ ap all_of seen)) (all_in ss all)
