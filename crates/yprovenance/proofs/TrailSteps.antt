-- Trails that grow.
use Rattle.std.proofs.Common.{ℕ, ◌≡◌, ◌<◌, ◌≤◌, ◌+◌, ◌⊎◌, List, [], ◌∷◌, ◌++◌, length}
use Rattle.std.proofs.Common.{sym, ◌∙◌, ap, subst, inl, inr, arith, append-nil}
use Rattle.std.proofs.Common.{append_assoc, length-append}
use Rattle.std.specs.List.{Contains}
use Rattle.std.proofs.Math.Seq.{get_or-append_seam}
use Rattle.std.proofs.lemmas.List.{get_or_append_left, map_push, map-append}
use Rattle.std.proofs.lemmas.List.Elements.{Contains-push, Contains-append_left}
use Rattle.ylalr.specs.Collection.{Collection}
use Rattle.yprovenance.specs.declared.reason.Place.{Place}
use Rattle.yprovenance.specs.declared.trail.Entry.{Entry}
use Rattle.yprovenance.specs.Reasons.{Gives}
use Rattle.yprovenance.specs.Trail.{blank_entry, entry_at, places_of, GivesBack, Puts, Extends}
use Rattle.yprovenance.specs.Trail.{IsPlace, IsTrail, IsTried, IsVisited}

at_kept : (l more : List Entry) (k : ℕ) → k < length l → entry_at (l ++ more) k ≡ entry_at l k
at_kept l more k h = get_or_append_left l more blank_entry k h

at_last : (l : List Entry) (e : Entry) (k : ℕ) → k ≡ length l → entry_at (l ++ e ∷ []) k ≡ e
at_last l e k h = ap (entry_at (l ++ e ∷ [])) h ∙ get_or-append_seam l e [] blank_entry

order : (k n : ℕ) → k < n + 1 → (k < n) ⊎ (k ≡ n)
order k n h = grind arith

longer : (l : List Entry) (e : Entry) → length (l ++ e ∷ []) ≡ length l + 1
longer l e = length-append l (e ∷ [])

pub extends_none : (l : List Entry) → Extends l l
extends_none l = ([], sym (append-nil l))

pub extends_then : (a b c : List Entry) → Extends a b → Extends b c → Extends a c
extends_then a b c x y =
    (x.0 ++ y.0, y.1 ∙ ap (λ l. l ++ y.0) x.1 ∙ append_assoc a x.0 y.0)

module _ (old new : List Entry) (x : Extends old new) where
  pub extends_length : length old ≤ length new
  extends_length =
      let e = ap (λ (l : List Entry). length l) x.1 ∙ length-append old x.0 in
      omega (arith, e)

  pub extends_at : (k : ℕ) → k < length old → entry_at new k ≡ entry_at old k
  extends_at k h = ap (λ (l : List Entry). entry_at l k) x.1 ∙ at_kept old x.0 k h

  pub extends_place : (p : Place) → Contains (places_of old) p → Contains (places_of new) p
  extends_place p c = subst (λ (l : List Place). Contains l p)
      (sym (ap places_of x.1 ∙ map-append (λ (e : Entry). e.place) old x.0))
      (Contains-append_left (places_of old) (places_of x.0) p c)

  pub tried_kept : (m : Collection) (a : ℕ) (v : Place) (i : _) → IsTried m a old v i →
      IsTried m a new v i
  tried_kept m a v i t = record {
    none = t.none;
    every = λ y e n. extends_place (record { state = v.state; item = i }) (t.every y e n);
  }

  pub visited_kept : (m : Collection) (a : ℕ) (k : ℕ) → k < length old →
      IsVisited m a old (entry_at old k).place → IsVisited m a new (entry_at new k).place
  visited_kept m a k h t = subst (λ (e : Entry). IsVisited m a new e.place)
      (sym (extends_at k h))
      (record { none = t.none; every = λ p c g. extends_place p (t.every p c g) })

pub puts_extends : (old : List Entry) (e : Entry) (new : List Entry) → Puts old e new →
    Extends old new
puts_extends old e new (inl p) = ([], p.0 ∙ sym (append-nil old))
puts_extends old e new (inr p) = (e ∷ [], p)

pub puts_there : (old : List Entry) (e : Entry) (new : List Entry) → Puts old e new →
    Contains (places_of new) e.place
puts_there old e new (inl p) = subst (λ (l : List Entry). Contains (places_of l) e.place)
    (sym p.0) p.1
puts_there old e new (inr p) = subst (λ (l : List Entry). Contains (places_of l) e.place) (sym p)
    (subst (λ (l : List Place). Contains l e.place)
    (sym (map_push (λ (e : Entry). e.place) old e)) (Contains-push (places_of old) e.place))

-- the first entry
pub one_back : (e : Entry) → GivesBack (e ∷ [])
one_back e k z h = absurd (omega (arith, z, h))

pub one_trail : (m : Collection) (e : Entry) → IsPlace m e.place → IsTrail m (e ∷ [])
one_trail m e p = record {
  some = omega arith;
  places = λ k h. first k (omega (arith, h));
  gives = λ k z h. absurd (omega (arith, z, h));
}
  where
    first : (k : ℕ) → k ≡ 0 → IsPlace m (entry_at (e ∷ []) k).place
    first k q = subst (λ n. IsPlace m (entry_at (e ∷ []) n).place) (sym q) p

-- one entry more
pub push_back : (l : List Entry) (e : Entry) → GivesBack l → e.gives < length l →
    GivesBack (l ++ e ∷ [])
push_back l e t h k z b = go (order k (length l) (let n = longer l e in omega (arith, n, b)))
  where
    go : (k < length l) ⊎ (k ≡ length l) → (entry_at (l ++ e ∷ []) k).gives < k
    go (inl a) = subst (λ (x : Entry). x.gives < k) (sym (at_kept l (e ∷ []) k a)) (t k z a)
    go (inr a) = subst (λ (x : Entry). x.gives < k) (sym (at_last l e k a)) (omega (arith, a, h))

module _ (m : Collection) (l : List Entry) (e : Entry) (t : IsTrail m l) (p : IsPlace m e.place)
    (h : e.gives < length l) (g : Gives m e.place (entry_at l e.gives).place e.cause) where
  push_places : (k : ℕ) → k < length (l ++ e ∷ []) → IsPlace m (entry_at (l ++ e ∷ []) k).place
  push_places k b = go (order k (length l) (let n = longer l e in omega (arith, n, b)))
    where
      go : (k < length l) ⊎ (k ≡ length l) → IsPlace m (entry_at (l ++ e ∷ []) k).place
      go (inl a) = subst (λ (x : Entry). IsPlace m x.place) (sym (at_kept l (e ∷ []) k a))
          (t.places k a)
      go (inr a) = subst (λ (x : Entry). IsPlace m x.place) (sym (at_last l e k a)) p

  push_gives : (k : ℕ) → 0 < k → k < length (l ++ e ∷ []) →
      ((entry_at (l ++ e ∷ []) k).gives < k) × Gives m (entry_at (l ++ e ∷ []) k).place
      (entry_at (l ++ e ∷ []) (entry_at (l ++ e ∷ []) k).gives).place
      (entry_at (l ++ e ∷ []) k).cause
  push_gives k z b = go (order k (length l) (let n = longer l e in omega (arith, n, b)))
    where
      P : Entry → Type 0
      P x = (x.gives < k) × Gives m x.place (entry_at (l ++ e ∷ []) x.gives).place x.cause

      go : (k < length l) ⊎ (k ≡ length l) → P (entry_at (l ++ e ∷ []) k)
      go (inl a) =
          let was = t.gives k z a in
          let low : (entry_at l k).gives < length l = let w = was.0 in omega (arith, w, a) in
          subst P (sym (at_kept l (e ∷ []) k a)) (
            was.0,
            subst (λ (x : Entry). Gives m (entry_at l k).place x.place (entry_at l k).cause)
                (sym (at_kept l (e ∷ []) (entry_at l k).gives low)) was.1,
          )
      go (inr a) = subst P (sym (at_last l e k a)) (
        omega (arith, a, h),
        subst (λ (x : Entry). Gives m e.place x.place e.cause)
            (sym (at_kept l (e ∷ []) e.gives h)) g,
      )

  push_trail : IsTrail m (l ++ e ∷ [])
  push_trail = record {
    some = (let n = longer l e in omega (arith, n));
    places = push_places;
    gives = push_gives;
  }

  pub puts_trail : (new : List Entry) → Puts l e new → IsTrail m new
  puts_trail new (inl q) = subst (IsTrail m) (sym q.0) t
  puts_trail new (inr q) = subst (IsTrail m) (sym q) push_trail
