-- The rows of the left sides of a state, one item more.
use Rattle.std.proofs.Common.{ℕ, ◌≡◌, ◌≢◌, ◌<◌, ◌+◌, ◌⊎◌, List, length, get_or, sym, ◌∙◌, ap, subst}
use Rattle.std.proofs.Common.{inl, inr, arith, Option, Some, None, get_or-set_same}
use Rattle.std.proofs.Common.{get_or-set_other}
use Rattle.std.proofs.Math.ListN.{set, length-set}
use Rattle.ysymbols.specs.Grammar.{ContextFree, left_of}
use Rattle.ylalr.specs.declared.items.Item.{Item}
use Rattle.ylalr.specs.ItemRows.{At, Starts, AreRows, AreLefts}
use Rattle.ybitsets.proofs.Turn.{same_default}
use Rattle.std.proofs.Math.Nat.{eq-zero-or-pos}
use Rattle.ysymbols.proofs.Numbers.{below_or_last}
use Rattle.std.proofs.lemmas.Bool.{cases_eq}

-- the items before place k were noted
pub record Noting (g : ContextFree) (xs : List Item) (rows : List ℕ) (k : ℕ)
    (lefts : List (Option ℕ)) : Type 0 where
  pub sized : length lefts ≡ g.symbols
  pub found : (s p : ℕ) → get_or lefts s None ≡ Some p → (i : Item) × At xs rows i p × Starts g s i
  pub every : (i : Item) (p : ℕ) (a : At xs rows i p) → a.index < k → i.dot ≡ 0 →
      get_or lefts (left_of g i.rule) None ≡ Some p

module _ (g : ContextFree) (xs : List Item) (rows : List ℕ) (k : ℕ) (x : Item) (p : ℕ)
    (old new : List (Option ℕ)) (n : Noting g xs rows k old) (are : AreRows g xs rows)
    (hx : left_of g x.rule < g.symbols) (here : At xs rows x p) (ek : here.index ≡ k) where
  -- the item at place k is this one
  is_here : (i : Item) (t : ℕ) (a : At xs rows i t) → a.index ≡ k → (i ≡ x) × (t ≡ p)
  is_here i t a e =
      let q : a.index ≡ here.index = e ∙ sym ek in
      let ei : i ≡ x = sym a.here ∙ same_default xs a.index i x a.within ∙ ap (λ j. get_or xs j x) q
      ∙ here.here in
      (ei, a.row ∙ ap (λ j. get_or rows j 0) q ∙ sym here.row)

  some_is : (a b : ℕ) (o : Option ℕ) → o ≡ Some a → o ≡ Some b → a ≡ b
  some_is a b o e h = cc

  pub noting_moved : 0 < x.dot → new ≡ old → Noting g xs rows (k + 1) new
  noting_moved d e = subst (Noting g xs rows (k + 1)) (sym e) (record {
    sized = n.sized;
    found = n.found;
    every = λ i t a h z. every i t a z (below_or_last a.index k h);
  })
    where
      every : (i : Item) (t : ℕ) (a : At xs rows i t) → i.dot ≡ 0 → (a.index < k) ⊎ (a.index ≡ k) →
          get_or old (left_of g i.rule) None ≡ Some t
      every i t a z (inl l) = n.every i t a l z
      every i t a z (inr l) = absurd (let w = ap (λ (v : Item). v.dot) (is_here i t a l).0 in
          omega (arith, d, w, z))

  pub noting_set : x.dot ≡ 0 → new ≡ set old (left_of g x.rule) (Some p) → Noting g xs rows
      (k + 1) new
  noting_set d e = subst (Noting g xs rows (k + 1)) (sym e) (record {
    sized = length-set old (left_of g x.rule) (Some p) ∙ n.sized;
    found = λ s t h. found s t (cases_eq s (left_of g x.rule)) h;
    every = λ i t a h z. every i t a z (below_or_last a.index k h)
        (cases_eq (left_of g i.rule) (left_of g x.rule));
  })
    where
      now : get_or (set old (left_of g x.rule) (Some p)) (left_of g x.rule) None ≡ Some p
      now = get_or-set_same old (left_of g x.rule) (Some p) None (subst (λ j. left_of g x.rule < j)
          (sym n.sized) hx)

      found : (s t : ℕ) → (s ≡ left_of g x.rule) ⊎ (s ≢ left_of g x.rule) →
          get_or (set old (left_of g x.rule) (Some p)) s None ≡ Some t →
          (i : Item) × At xs rows i t × Starts g s i
      found s t (inl q) h =
          let z : p ≡ t = some_is p t (get_or (set old (left_of g x.rule) (Some p))
          (left_of g x.rule) None) now
          (subst (λ j. get_or (set old (left_of g x.rule) (Some p)) j None ≡ Some t) q h) in
          (x, subst (At xs rows x) z here, (d, sym q))
      found s t (inr q) h = n.found s t
          (sym (get_or-set_other old (left_of g x.rule) s (Some p) None q) ∙ h)

      every : (i : Item) (t : ℕ) (a : At xs rows i t) → i.dot ≡ 0 → (a.index < k) ⊎ (a.index ≡ k) →
          (left_of g i.rule ≡ left_of g x.rule) ⊎ (left_of g i.rule ≢ left_of g x.rule) →
          get_or (set old (left_of g x.rule) (Some p)) (left_of g i.rule) None ≡ Some t
      every i t a z l (inl q) =
          let et : p ≡ t = are.shared x i p t here a d (z, q) in
          subst (λ j. get_or (set old (left_of g x.rule) (Some p)) j None ≡ Some t) (sym q)
          (now ∙ ap (λ j. Some j) et)
      every i t a z (inl l) (inr q) = get_or-set_other old (left_of g x.rule) (left_of g i.rule)
          (Some p) None q ∙ n.every i t a l z
      every i t a z (inr l) (inr q) =
          absurd (q (ap (λ (v : Item). left_of g v.rule) (is_here i t a l).0))

  pub noting_push : (x.dot ≡ 0 → new ≡ set old (left_of g x.rule) (Some p)) →
      (0 < x.dot → new ≡ old) → Noting g xs rows (k + 1) new
  noting_push f m = go (eq-zero-or-pos x.dot)
    where
      go : (x.dot ≡ 0) ⊎ (0 < x.dot) → Noting g xs rows (k + 1) new
      go (inl d) = noting_set d (f d)
      go (inr d) = noting_moved d (m d)

pub noting_all : (g : ContextFree) (xs : List Item) (rows : List ℕ) (k : ℕ)
    (lefts : List (Option ℕ)) → k ≡ length xs → Noting g xs rows k lefts → AreLefts g xs rows lefts
noting_all g xs rows k lefts e n = record {
  sized = n.sized;
  found = n.found;
  every =
      λ i p a d. n.every i p a (subst (λ j. a.index < j) (sym e) a.within) d;
}
