-- Links from what stands in front of bodies, and rows that are spread along them.
use Rattle.std.proofs.Common.{ℕ, zero, suc, Bool, ◌≡◌, ◌<◌, ◌≤◌, ◌+◌, ◌⊎◌, ◌↔◌, List, [], ◌∷◌, ◌++◌}
use Rattle.std.proofs.Common.{length, get_or, take, drop, refl, sym, ◌∙◌, ap, subst, inl, inr}
use Rattle.std.proofs.Common.{arith}
use Rattle.std.proofs.Math.ListN.{set}
use Rattle.std.specs.List.{All}
use Rattle.std.proofs.lemmas.List.Elements.{All-nil, All-cons, All-head, All-tail}
use Rattle.ysymbols.specs.Grammar.{ContextFree, left_of, body_of}
use Rattle.ylalr.specs.Fronts.{InFront, AddsFront, Leads, AreFrontLinks, HasEach}
use Rattle.ybitsets.specs.Links.{Link, Reaches, given, passed, IsSpread}
use Rattle.ybitsets.specs.Marks.{Has}
use Rattle.ybitsets.specs.Rows.{BitRows, Holds}
use Rattle.ylalr.specs.Sets.{FirstRule, itself, through}
use Rattle.ybitsets.proofs.LinkSteps.{link_there, link_kept, link_cases, are_links_none, no_link}
use Rattle.ysymbols.proofs.Numbers.{below_or_last}

-- s stands at one of the first k places of x
abbrev pub StandsBelow : List ℕ → ℕ → ℕ → Type 0
StandsBelow x k s = (j : ℕ) × (j < k) × (get_or x j 0 ≡ s)

-- links to t were added from those places
abbrev pub AddsBelow : List ℕ → ℕ → ℕ → List (List ℕ) → List (List ℕ) → Type 0
AddsBelow x k to l v = (s t : ℕ) → Link v s t ↔ (Link l s t ⊎ (StandsBelow x k s × (t ≡ to)))

pub below_none : (x : List ℕ) (to : ℕ) (l : List (List ℕ)) → AddsBelow x 0 to l l
below_none x to l s t = (λ h. inl h, back)
  where
    back : Link l s t ⊎ (StandsBelow x 0 s × (t ≡ to)) → Link l s t
    back (inl h) = h
    back (inr h) = absurd (let z = h.0.1 in omega arith)

-- one more place has its link
pub below_push : (x : List ℕ) (k to : ℕ) (l m v : List (List ℕ)) → AddsBelow x k to l m →
    get_or x k 0 < length m → v ≡ set m (get_or x k 0) (get_or m (get_or x k 0) [] ++ to ∷ []) →
    AddsBelow x (k + 1) to l v
below_push x k to l m v a h e s t = (λ c. down (link_cases m v (get_or x k 0) to h e s t c), up)
  where
    old : Link l s t ⊎ (StandsBelow x k s × (t ≡ to)) → Link l s t ⊎
        (StandsBelow x (k + 1) s × (t ≡ to))
    old (inl c) = inl c
    old (inr c) = inr ((c.0.0, (let z = c.0.1 in omega arith), c.0.2), c.1)

    down : Link m s t ⊎ ((s ≡ get_or x k 0) × (t ≡ to)) → Link l s t ⊎
        (StandsBelow x (k + 1) s × (t ≡ to))
    down (inl c) = old ((a s t).0 c)
    down (inr c) = inr ((k, omega arith, sym c.0), c.1)

    new : (t ≡ to) → (j : ℕ) → get_or x j 0 ≡ s → (j < k) ⊎ (j ≡ k) → Link v s t
    new et j es (inl i) = link_kept m v (get_or x k 0) to h e s t
        ((a s t).1 (inr ((j, i, es), et)))
    new et j es (inr q) = subst (λ i. Link v i t) (subst (λ i. get_or x i 0 ≡ s) q es)
        (subst (Link v (get_or x k 0)) (sym et) (link_there m v (get_or x k 0) to h e))

    up : Link l s t ⊎ (StandsBelow x (k + 1) s × (t ≡ to)) → Link v s t
    up (inl c) = link_kept m v (get_or x k 0) to h e s t ((a s t).1 (inl c))
    up (inr c) = new c.1 c.0.0 c.0.2 (below_or_last c.0.0 k c.0.1)

-- the places below k are those in front
front_whole : (n : List Bool) (x : List ℕ) (k to : ℕ) (l v : List (List ℕ)) →
    AddsBelow x k to l v → k ≤ length x → ((j : ℕ) → j < k → All (Has n) (take j x)) →
    ((j : ℕ) → k ≤ j → j < length x → All (Has n) (take j x) → ⊥) → AddsFront n x to l v
front_whole n x k to l v a h every none s t = (λ c. down ((a s t).0 c), λ c. (a s t).1 (up c))
  where
    down : Link l s t ⊎ (StandsBelow x k s × (t ≡ to)) → Link l s t ⊎
        ((t ≡ to) × InFront n x s)
    down (inl c) = inl c
    down (inr c) = inr (
      c.1,
      record {
        place = c.0.0;
        within = (let z = c.0.1 in omega arith);
        before = every c.0.0 c.0.1;
        here = c.0.2;
      },
    )

    at : (f : InFront n x s) → (f.place < k) ⊎ (k ≤ f.place) → StandsBelow x k s
    at f (inl i) = (f.place, i, f.here)
    at f (inr i) = absurd (none f.place i f.within f.before)

    split : (j : ℕ) → (j < k) ⊎ (k ≤ j)
    split j = grind arith

    up : Link l s t ⊎ ((t ≡ to) × InFront n x s) → Link l s t ⊎ (StandsBelow x k s × (t ≡ to))
    up (inl c) = inl c
    up (inr c) = inr (at c.1 (split c.1.place), c.0)

shorter : (n : List Bool) (x : List ℕ) (j k : ℕ) → j ≤ k → All (Has n) (take k x) →
    All (Has n) (take j x)
shorter n [] zero k l a = All-nil (Has n)
shorter n [] (suc j) k l a = All-nil (Has n)
shorter n (s ∷ x) zero k l a = All-nil (Has n)
shorter n (s ∷ x) (suc j) zero l a = absurd (omega arith)
shorter n (s ∷ x) (suc j) (suc k) l a = All-cons (Has n) s (take j x)
    (All-head (Has n) s (take k x) a)
    (shorter n x j k (omega arith) (All-tail (Has n) s (take k x) a))

-- a marked symbol is passed over, so an unmarked one ends the front
pub unmarked_end : (n : List Bool) (x : List ℕ) (j k : ℕ) → j < k → k < length x →
    (Has n (get_or x j 0) → ⊥) → All (Has n) (take k x) → ⊥
unmarked_end n [] j k l h u a = omega arith
unmarked_end n (s ∷ x) j zero l h u a = omega arith
unmarked_end n (s ∷ x) zero (suc k) l h u a = u (All-head (Has n) s (take k x) a)
unmarked_end n (s ∷ x) (suc j) (suc k) l h u a = unmarked_end n x j k (omega arith) (omega arith) u
    (All-tail (Has n) s (take k x) a)

-- no place is left
pub front_all : (n : List Bool) (x : List ℕ) (k to : ℕ) (l v : List (List ℕ)) → k ≡ length x →
    All (Has n) (take k x) → AddsBelow x k to l v → AddsFront n x to l v
front_all n x k to l v e p a = front_whole n x k to l v a (omega arith)
    (λ j i. shorter n x j k (omega arith) p) (λ j i h q. omega arith)

-- the symbol at place k isn't marked
pub front_until : (n : List Bool) (x : List ℕ) (k to : ℕ) (l v : List (List ℕ)) → k < length x →
    All (Has n) (take k x) → (Has n (get_or x k 0) → ⊥) → AddsBelow x (k + 1) to l v →
    AddsFront n x to l v
front_until n x k to l v h p u a = front_whole n x (k + 1) to l v a (omega arith)
    (λ j i. shorter n x j k (omega arith) p)
    (λ j i w q. unmarked_end n x k j (omega arith) w u q)

pub leads_none : (g : ContextFree) (n : List Bool) (l : List (List ℕ)) → length l ≡ g.symbols →
    All (λ r. r ≡ []) l → AreFrontLinks g n 0 l
leads_none g n l e z = record {
  links = are_links_none g.symbols l e z;
  exact =
      λ s t. (λ h. absurd (no_link l z s t h), λ h. absurd (let b = h.below in omega arith));
}

-- the links of one more rule
pub leads_more : (g : ContextFree) (n : List Bool) (r to : ℕ) (x : List ℕ) (l v : List (List ℕ)) →
    to < g.symbols → to ≡ left_of g r → x ≡ body_of g r → length v ≡ length l →
    AddsFront n x to l v → AreFrontLinks g n r l → AreFrontLinks g n (r + 1) v
leads_more g n r to x l v w et ex el a b = record {
  links = record { sized = el ∙ b.links.sized; within = λ s t h. within s t ((a s t).0 h) };
  exact = λ s t. (λ h. down s t ((a s t).0 h), λ h. up s t h (below_or_last h.rule r h.below));
}
  where
    within : (s t : ℕ) → Link l s t ⊎ ((t ≡ to) × InFront n x s) → t < g.symbols
    within s t (inl h) = b.links.within s t h
    within s t (inr h) = subst (λ i. i < g.symbols) (sym h.0) w

    further : (s t : ℕ) → Leads g n r s t → Leads g n (r + 1) s t
    further s t h = record {
      rule = h.rule;
      below = (let z = h.below in omega arith);
      left = h.left;
      front = h.front;
    }

    down : (s t : ℕ) → Link l s t ⊎ ((t ≡ to) × InFront n x s) → Leads g n (r + 1) s t
    down s t (inl h) = further s t ((b.exact s t).0 h)
    down s t (inr h) = record {
      rule = r;
      below = omega arith;
      left = h.0 ∙ et;
      front =
          subst (λ y. InFront n y s) ex h.1;
    }

    up : (s t : ℕ) (h : Leads g n (r + 1) s t) → (h.rule < r) ⊎ (h.rule ≡ r) → Link v s t
    up s t h (inl i) = (a s t).1 (inl ((b.exact s t).1 (record {
      rule = h.rule;
      below = i;
      left =
          h.left;
      front = h.front;
    })))
    up s t h (inr q) = (a s t).1 (inr (
      h.left ∙ ap (left_of g) q ∙ sym et,
      subst (λ y. InFront n y s) (ap (body_of g) q ∙ sym ex) h.front,
    ))

-- the number k too stands in its row now
pub each_more : (row : ℕ → ℕ) (k to : ℕ) (m o : BitRows) → to ≡ row k →
    ((s c : ℕ) → Holds o s c ↔ (Holds m s c ⊎ ((s ≡ to) × (c ≡ k)))) → HasEach row k m →
    HasEach row (k + 1) o
each_more row k to m o e a h s c = (λ x. down ((a s c).0 x), λ x. up x (below_or_last c k x.0))
  where
    down : Holds m s c ⊎ ((s ≡ to) × (c ≡ k)) → (c < k + 1) × (s ≡ row c)
    down (inl x) = let y = (h s c).0 x in ((let z = y.0 in omega arith), y.1)
    down (inr x) = ((let z = x.1 in omega arith), x.0 ∙ e ∙ ap row (sym x.1))

    up : (c < k + 1) × (s ≡ row c) → (c < k) ⊎ (c ≡ k) → Holds o s c
    up x (inl i) = (a s c).1 (inl ((h s c).1 (i, x.1)))
    up x (inr q) = (a s c).1 (inr (x.1 ∙ ap row q ∙ sym e, q))

-- where no symbol is passed over, rows of rules are spread to all that symbols lead to
module _ (g : ContextFree) (n : List Bool) (l : List (List ℕ)) (m o : BitRows)
    (none : (s : ℕ) → Has n s → ⊥) (a : AreFrontLinks g n (length g.rules) l)
    (w : HasEach (left_of g) (length g.rules) m) (x : IsSpread l m o) where
  head_tail : (x : List ℕ) (p s : ℕ) → p < length x → All (Has n) (take p x) →
      get_or x p 0 ≡ s → x ≡ s ∷ drop 1 x
  head_tail [] p s h b e = absurd (omega arith)
  head_tail (y ∷ x) zero s h b e = ap (λ z. z ∷ x) e
  head_tail (y ∷ x) (suc p) s h b e = absurd (none y (All-head (Has n) y (take p x) b))

  sound : {s r : ℕ} → Reaches l m s r → FirstRule g s r
  sound (given h) = let y = (w _ _).0 h in itself y.0 y.1
  sound (passed {p = p} {t = s} z h) =
      let y = (a.exact p s).0 h in
      let f = y.front in
      through y.below y.left (head_tail (body_of g y.rule) f.place p f.within f.before f.here)
      (sound z)

  complete : {s r : ℕ} → FirstRule g s r → Reaches l m s r
  complete {s = s} {r = r} (itself h e) = given ((w s r).1 (h, e))
  complete {s = s} (through {t = t} {n = k} {y = y} h e b o) =
      passed (complete o) ((a.exact t s).1 (record {
        rule = k;
        below = h;
        left = e;
        front =
            subst (λ z. InFront n z t) (sym b) (record {
              place = 0;
              within = omega arith;
              before =
                  All-nil (Has n);
              here = refl;
            });
      }))

  pub first_rules_spread : (s r : ℕ) → Holds o s r ↔ FirstRule g s r
  first_rules_spread s r = (λ h. sound ((x s r).0 h), λ h. (x s r).1 (complete h))
