-- The candidates of a cell, item by item.
use Rattle.std.proofs.Common.{ℕ, suc, ◌≡◌, ◌+◌, ◌-◌, ◌<◌, ◌≤◌, Bool, true, false, ◌&&◌, List, []}
use Rattle.std.proofs.Common.{◌∷◌}
use Rattle.std.proofs.Common.{length, map, drop, get_or, refl, sym, ap, ◌∙◌, arith}
use Rattle.std.proofs.Common.{Some, None, if◌then◌else◌, length-drop, ◌↔◌}
use Rattle.std.specs.List.{filter}
use Rattle.std.proofs.Math.Seq.{drop-cons}
use Rattle.ylalr.specs.declared.items.Item.{Item}
use Rattle.ylalr.specs.Collection.{Collection, Guide, bare_of, state_of}
use Rattle.ytables.specs.Tables.{is_ready, ready_in, rules_by}
use Rattle.ytables.proofs.RowSteps.{rules_ready}
use Rattle.yprovenance.specs.declared.candidates.Candidate.{Candidate}
use Rattle.yprovenance.specs.Candidates.{is_candidate, candidate_of, candidate_by, candidates_of}
use Rattle.yprovenance.specs.Candidates.{candidates_in, rules_of}

-- two tests that say the same are one
pub one_test : (P : Type 0) (a b : Bool) → (a ≡ true) ↔ P → (b ≡ true) ↔ P → a ≡ b
one_test P true true f g = refl
one_test P false false f g = refl
one_test P true false f g = sym (g.1 (f.0 refl))
one_test P false true f g = f.1 (g.0 refl)

module _ (m : Collection) (u : Guide) (q t : ℕ) where
  -- by its two tests
  pub candidate_tests : (n : ℕ) (i : Item) (a b : Bool) → is_ready (bare_of m) i ≡ a →
      u.looks q i t ≡ b →
      (if a && b then Some (candidate_of m t n i) else None) ≡ candidate_by m u q t n i
  candidate_tests n i a b e f =
      ap (λ c. if c && b then Some (candidate_of m t n i) else None) (sym e) ∙ ap
      (λ c. if is_ready (bare_of m) i && c then Some (candidate_of m t n i) else None) (sym f)

  -- the rules of all candidates are those of the items that pass both tests
  rules_same : (n : ℕ) (items : List Item) → rules_of (candidates_of m u q t n items) ≡ rules_by
      (λ i. is_ready (bare_of m) i && u.looks q i t) items
  rules_same n [] = refl
  rules_same n (i ∷ items) = go (is_candidate m u q t i) (rules_same (n + 1) items)
    where
      go : (b : Bool) → rules_of (candidates_of m u q t (n + 1) items) ≡ rules_by
          (λ i. is_ready (bare_of m) i && u.looks q i t) items → rules_of (if b then candidate_of m t n i ∷ candidates_of m u q t (n + 1)
          items else candidates_of m u q t (n + 1) items) ≡ map (λ (i : Item). i.rule)
          (if b then i ∷ filter (λ i. is_ready (bare_of m) i && u.looks q i t) items else filter
          (λ i. is_ready (bare_of m) i && u.looks q i t) items)
      go true e = ap (λ l. i.rule ∷ l) e
      go false e = e

  -- the candidates from the first index on have the rules of the cell
  pub rules_whole : rules_of (candidates_in m u q t 0) ≡ rules_by (λ i. u.looks q i t)
      (ready_in (bare_of m) (state_of m q))
  rules_whole = rules_same 0 (state_of m q) ∙ rules_ready (bare_of m) (λ i. u.looks q i t)
      (state_of m q) (state_of m q) refl

  -- after the last item there is none
  pub none_behind : (n : ℕ) → length (state_of m q) ≤ n → candidates_in m u q t n ≡ []
  none_behind n h = go (drop n (state_of m q)) (length-drop n (state_of m q))
    where
      go : (l : List Item) → length l ≡ length (state_of m q) - n →
          candidates_of m u q t n l ≡ []
      go [] e = refl
      go (i ∷ l) e = absurd (omega (arith, e, h))

  -- the first of some items
  first_of : (n : ℕ) (i : Item) → n < length (state_of m q) → candidates_in m u q t n ≡
      (if is_candidate m u q t (get_or (state_of m q) n i) then candidate_of m t n
      (get_or (state_of m q) n i) ∷ candidates_in m u q t (n + 1) else
      candidates_in m u q t (n + 1))
  first_of n i l = ap (candidates_of m u q t n) (drop-cons (state_of m q) n i l) ∙ ap
      (λ k. if is_candidate m u q t (get_or (state_of m q) n i) then candidate_of m t n
      (get_or (state_of m q) n i) ∷ candidates_of m u q t (n + 1) (drop k (state_of m q)) else
      candidates_of m u q t (n + 1) (drop k (state_of m q)))
      (let e : suc n ≡ n + 1 = omega arith in e)

  pub first_is : (n : ℕ) (d : Item) (c : Candidate) → n < length (state_of m q) →
      Some c ≡ candidate_by m u q t n (get_or (state_of m q) n d) →
      (candidates_in m u q t n ≡ c ∷ candidates_in m u q t (c.index + 1)) × (c.index ≡ n)
  first_is n d c l e = go (is_candidate m u q t (get_or (state_of m q) n d)) refl e
    where
      i : Item
      i = get_or (state_of m q) n d

      go : (b : Bool) → is_candidate m u q t i ≡ b →
          Some c ≡ (if b then Some (candidate_of m t n i) else None) →
          (candidates_in m u q t n ≡ c ∷ candidates_in m u q t (c.index + 1)) × (c.index ≡ n)
      go true h e =
          let same : candidate_of m t n i ≡ c = cc in (
            first_of n d l ∙ ap (λ b. if b then candidate_of m t n i ∷ candidates_in m u q t (n + 1)
                else candidates_in m u q t (n + 1)) h ∙ ap
                (λ (c : Candidate). c ∷ candidates_in m u q t (c.index + 1)) same,
            sym (ap (λ (c : Candidate). c.index) same),
          )
      go false h e = cc

  pub first_isnt : (n : ℕ) (d : Item) → n < length (state_of m q) →
      None ≡ candidate_by m u q t n (get_or (state_of m q) n d) →
      candidates_in m u q t n ≡ candidates_in m u q t (n + 1)
  first_isnt n d l e = go (is_candidate m u q t (get_or (state_of m q) n d)) refl e
    where
      i : Item
      i = get_or (state_of m q) n d

      go : (b : Bool) → is_candidate m u q t i ≡ b →
          None ≡ (if b then Some (candidate_of m t n i) else None) →
          candidates_in m u q t n ≡ candidates_in m u q t (n + 1)
      go true h e = cc
      go false h e = first_of n d l ∙ ap (λ b. if b then candidate_of m t n i ∷ candidates_in m u q
          t (n + 1) else candidates_in m u q t (n + 1)) h
