-- What stands after the first symbols of bodies, one rule more.
use Rattle.std.proofs.Common.{ℕ, Bool, true, false, ◌≡◌, ◌<◌, ◌+◌, ◌⊎◌, ◌↔◌, List, length}
use Rattle.std.proofs.Common.{replicate, sym, ◌∙◌, subst, inl, inr, arith, get_or-set_same}
use Rattle.std.proofs.Math.ListN.{set}
use Rattle.std.proofs.lemmas.List.{length-replicate}
use Rattle.std.specs.List.{All}
use Rattle.ysymbols.specs.Grammar.{ContextFree}
use Rattle.ybitsets.specs.Marks.{Has}
use Rattle.ybitsets.specs.Rows.{BitRows, Holds, Grows, IsSized}
use Rattle.ybitsets.proofs.Growth.{sized_then}
use Rattle.ybitsets.proofs.MarkSteps.{kept_marked, marked_cases, none_marked}
use Rattle.ysymbols.proofs.Numbers.{below_or_last}
use Rattle.ylalr.specs.Behind.{FormHas, AddsAtMost, HasForm, rest_of, BehindTo}

-- no rule was noted
pub behind_none : (g : ContextFree) (n : List Bool) (m o : BitRows) (v : List Bool) →
    IsSized (length g.rules) g.tokens o → ((r b : ℕ) → Holds o r b → ⊥) →
    v ≡ replicate (length g.rules) false → BehindTo g n m 0 o v
behind_none g n m o v s empty e = subst (BehindTo g n m 0 o) (sym e) (record {
  sized = s;
  marks = length-replicate (length g.rules) false;
  begun = λ r b. ((λ h. absurd (empty r b h)), (λ w. absurd (let l = w.0 in omega arith)));
  vanishes = λ r. (
    (λ h. absurd (none_marked (length g.rules) r h)),
    (λ w. absurd (let l = w.0 in omega arith)),
  );
})

-- the form y was noted for rule k
pub record Notes (n : List Bool) (m : BitRows) (k : ℕ) (o w : BitRows) (v u : List Bool)
    (y : List ℕ) : Type 0 where
  pub sized : IsSized o.height o.width w
  pub grows : Grows o w
  pub sound : AddsAtMost n m y k o w
  pub every : HasForm n m y k w
  pub marks : length u ≡ length v
  pub marked : (r : ℕ) → Has u r ↔ (Has v r ⊎ ((r ≡ k) × All (Has n) y))

module _ (g : ContextFree) (n : List Bool) (m : BitRows) (k : ℕ) (o w : BitRows)
    (v u : List Bool) (i : BehindTo g n m k o v) (s : Notes n m k o w v u (rest_of g k)) where
  begun_to : (r b : ℕ) → Holds o r b ⊎ ((r ≡ k) × FormHas n m (rest_of g k) b) →
      (r < k + 1) × FormHas n m (rest_of g r) b
  begun_to r b (inl h) = let z = (i.begun r b).0 h in ((let l = z.0 in omega arith), z.1)
  begun_to r b (inr z) = (
    (let e = z.0 in omega arith),
    subst (λ j. FormHas n m (rest_of g j) b) (sym z.0) z.1,
  )

  begun_from : (r b : ℕ) → (r < k) ⊎ (r ≡ k) → FormHas n m (rest_of g r) b → Holds w r b
  begun_from r b (inl l) h = s.grows r b ((i.begun r b).1 (l, h))
  begun_from r b (inr e) h = subst (λ j. Holds w j b) (sym e)
      (s.every b (subst (λ j. FormHas n m (rest_of g j) b) e h))

  vanishes_to : (r : ℕ) → Has v r ⊎ ((r ≡ k) × All (Has n) (rest_of g k)) →
      (r < k + 1) × All (Has n) (rest_of g r)
  vanishes_to r (inl h) = let z = (i.vanishes r).0 h in ((let l = z.0 in omega arith), z.1)
  vanishes_to r (inr z) = (
    (let e = z.0 in omega arith),
    subst (λ j. All (Has n) (rest_of g j)) (sym z.0) z.1,
  )

  vanishes_from : (r : ℕ) → (r < k) ⊎ (r ≡ k) → All (Has n) (rest_of g r) → Has u r
  vanishes_from r (inl l) h = (s.marked r).1 (inl ((i.vanishes r).1 (l, h)))
  vanishes_from r (inr e) h = (s.marked r).1
      (inr (e, subst (λ j. All (Has n) (rest_of g j)) e h))

  pub behind_more : BehindTo g n m (k + 1) w u
  behind_more = record {
    sized = sized_then i.sized s.sized;
    marks = s.marks ∙ i.marks;
    begun = λ r b. (
      (λ h. begun_to r b (s.sound r b h)),
      (λ z. begun_from r b (below_or_last r k z.0) z.1),
    );
    vanishes = λ r. (
      (λ h. vanishes_to r ((s.marked r).0 h)),
      (λ z. vanishes_from r (below_or_last r k z.0) z.1),
    );
  }

-- a mark more, where the rest vanishes
pub marked_more : {A : Type 0} (v u : List Bool) (k : ℕ) → k < length v → u ≡ set v k true → A →
    (r : ℕ) → Has u r ↔ (Has v r ⊎ ((r ≡ k) × A))
marked_more {A = A} v u k h e a r = (
  (λ z. there (marked_cases v k r (subst (λ (x : List Bool). Has x r) e z))),
  back,
)
  where
    there : (r ≡ k) ⊎ Has v r → Has v r ⊎ ((r ≡ k) × A)
    there (inl q) = inr (q, a)
    there (inr z) = inl z

    back : Has v r ⊎ ((r ≡ k) × A) → Has u r
    back (inl z) = kept_marked v u k r h e z
    back (inr z) = subst (Has u) (sym z.0) (subst (λ (x : List Bool). Has x k) (sym e)
        (get_or-set_same v k true false h))

-- no mark more, where it doesn't
pub marked_same : {A : Type 0} (v u : List Bool) (k : ℕ) → u ≡ v → (A → ⊥) → (r : ℕ) →
    Has u r ↔ (Has v r ⊎ ((r ≡ k) × A))
marked_same {A = A} v u k e f r = ((λ z. inl (subst (λ (x : List Bool). Has x r) e z)), back)
  where
    back : Has v r ⊎ ((r ≡ k) × A) → Has u r
    back (inl z) = subst (λ (x : List Bool). Has x r) (sym e) z
    back (inr z) = absurd (f z.1)
