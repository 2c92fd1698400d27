-- The first site of some kind, by the list of those sites.
use Rattle.std.proofs.Common.{ℕ, ◌≡◌, inl, inr, Bool, true, false, List, [], ◌∷◌, ◌++◌, map}
use Rattle.std.proofs.Common.{Option, Some, None, refl, sym, ap, ◌∙◌, if◌then◌else◌}
use Rattle.std.specs.List.{find, last_or, AllByRecursion}
use Rattle.ysymbols.specs.Sources.{option_view}
use Rattle.ysymbols.proofs.NameSteps.{false_true}
use Rattle.ydeclarations.specs.Places.{FirstAt, select}
use Rattle.ysyntax.specs.Sites.{Role, Site, each}

pub all_map : (P Q : Site → Type 0) → ((s : Site) → P s → Q s) → (ss : List Site) →
    AllByRecursion P ss → AllByRecursion Q ss
all_map P Q f [] a = tt
all_map P Q f (s ∷ ss) a = (f s a.0, all_map P Q f ss a.1)

pub first_front : (P : Role → Type 0) (ds rs : List Site) (at : ℕ) → FirstAt P ds at →
    FirstAt P (ds ++ rs) at
first_front P [] rs at h = absurd h
first_front P (d ∷ ds) rs at (inl h) = inl h
first_front P (d ∷ ds) rs at (inr (n, h)) = inr (n, first_front P ds rs at h)

pub first_behind : (P : Role → Type 0) (ds rs : List Site) (at : ℕ) →
    AllByRecursion (λ s. P s.role → ⊥) ds → FirstAt P rs at → FirstAt P (ds ++ rs) at
first_behind P [] rs at a h = h
first_behind P (d ∷ ds) rs at a h = inr (a.0, first_behind P ds rs at a.1 h)

-- what is the same in both cases of a test is the same
pub by_test : {A B C : Type 0} (f : A → C) (g : B → C) (t : Bool) (a b : A) (c d : B) →
    f a ≡ g c → f b ≡ g d → f (if t then a else b) ≡ g (if t then c else d)
by_test f g true a b c d e h = e
by_test f g false a b c d e h = h

-- a search among things is one among what is seen of them, with their places
find_seen : {X A : Type 0} (p : A → Bool) (v : X → A) (place : X → ℕ) (xs : List X) →
    option_view place (find (λ x. p (v x)) xs)
    ≡ option_view (λ (y : A × ℕ). y.1) (find (λ y. p y.0) (map (λ x. (v x, place x)) xs))
find_seen p v place [] = refl
find_seen p v place (x ∷ xs) = by_test (option_view place) (option_view (λ y. y.1)) (p (v x))
    _ _ _ _ refl (find_seen p v place xs)

-- a site at fault is one of the kind, of which the test holds
abbrev pub Shows : {A : Type 0} → (Role → Option A) → (A → Bool) → (Role → Type 0) → Site → Type 0
Shows {A} f p P s = P s.role → (x : A) × (f s.role ≡ Some x) × (p x ≡ true)

-- a role is of the kind in one way
pub no_other : {A : Type 0} (f : Role → Option A) (p : A → Bool) (r : Role) (x y : A) →
    f r ≡ Some x → f r ≡ Some y → p x ≡ false → p y ≡ true → ⊥
no_other f p r x y e g n t =
    let same : x ≡ y = cc in
    false_true (sym n ∙ ap p same ∙ t)

module _ {A : Type 0} (f : Role → Option A) (p : A → Bool) (P : Role → Type 0)
    (yes : (r : Role) (x : A) → f r ≡ Some x → p x ≡ true → P r) where
  abbrev first_of : List (A × ℕ) → Option ℕ
  first_of ys = option_view (λ y. y.1) (find (λ y. p y.0) ys)

  first_in : (ss : List Site) (at : ℕ) → AllByRecursion (Shows f p P) ss →
      first_of (select f ss) ≡ Some at → FirstAt P ss at
  first_in [] at a h = cc
  first_in (s ∷ ss) at a h = go (f s.role) refl h (first_in ss at a.1)
    where
      pick : (x : A) → f s.role ≡ Some x → (b : Bool) → p x ≡ b →
          option_view (λ (y : A × ℕ). y.1) (if b then Some (x, s.at)
          else find (λ y. p y.0) (select f ss)) ≡ Some at →
          (first_of (select f ss) ≡ Some at → FirstAt P ss at) → FirstAt P (s ∷ ss) at
      pick x e true t h again = inl (yes s.role x e t, let w : s.at ≡ at = cc in sym w)
      pick x e false t h again =
          inr (λ q. let (y, g, u) = a.0 q in no_other f p s.role x y e g t u, again h)

      go : (o : Option A) → f s.role ≡ o →
          first_of (each (λ x. (x, s.at) ∷ []) o ++ select f ss) ≡ Some at →
          (first_of (select f ss) ≡ Some at → FirstAt P ss at) → FirstAt P (s ∷ ss) at
      go None e h again = inr (
        λ q. let (y, g, u) = a.0 q in
            let w : None ≡ Some y = sym e ∙ g in cc,
        again h,
      )
      go (Some x) e h again = pick x e (p x) refl h again

  none_in : (ss : List Site) → AllByRecursion (Shows f p P) ss → first_of (select f ss) ≡ None →
      AllByRecursion (λ s. P s.role → ⊥) ss
  none_in [] a h = tt
  none_in (s ∷ ss) a h = go (f s.role) refl h (none_in ss a.1)
    where
      pick : (x : A) → f s.role ≡ Some x → (b : Bool) → p x ≡ b →
          option_view (λ (y : A × ℕ). y.1) (if b then Some (x, s.at)
          else find (λ y. p y.0) (select f ss)) ≡ None →
          (first_of (select f ss) ≡ None → AllByRecursion (λ s. P s.role → ⊥) ss) →
          AllByRecursion (λ s. P s.role → ⊥) (s ∷ ss)
      pick x e true t h again = cc
      pick x e false t h again =
          (λ q. let (y, g, u) = a.0 q in no_other f p s.role x y e g t u, again h)

      go : (o : Option A) → f s.role ≡ o →
          first_of (each (λ x. (x, s.at) ∷ []) o ++ select f ss) ≡ None →
          (first_of (select f ss) ≡ None → AllByRecursion (λ s. P s.role → ⊥) ss) →
          AllByRecursion (λ s. P s.role → ⊥) (s ∷ ss)
      go None e h again = (
        λ q. let (y, g, u) = a.0 q in
            let w : None ≡ Some y = sym e ∙ g in cc,
        again h,
      )
      go (Some x) e h again = pick x e (p x) refl h again

  module _ {X : Type 0} (v : X → A) (place : X → ℕ) (xs now : List X) (o : Option ℕ)
      (ss : List Site) (same : now ≡ xs) (seen : map (λ x. (v x, place x)) xs ≡ select f ss)
      (is : o ≡ option_view place (find (λ x. p (v x)) now))
      (all : AllByRecursion (Shows f p P) ss) where
    whole : o ≡ first_of (select f ss)
    whole = is ∙ ap (λ (z : List X). option_view place (find (λ x. p (v x)) z)) same
        ∙ find_seen p v place xs ∙ ap first_of seen

    -- what a search finds is the first site at fault
    pub found_in : (at : ℕ) → o ≡ Some at → FirstAt P ss at
    found_in at h = first_in ss at all (sym whole ∙ h)

    -- where it finds none, no site is at fault
    pub none_found : o ≡ None → AllByRecursion (λ s. P s.role → ⊥) ss
    none_found h = none_in ss all (sym whole ∙ h)

-- the last of things, as it is seen
pub last_seen : {X A : Type 0} (v : X → A) (o : Option X) (xs : List X) →
    last_or (option_view v o) (map v xs) ≡ option_view v (last_or o xs)
last_seen v o [] = refl
last_seen v o (x ∷ xs) = last_seen v (Some x) xs
