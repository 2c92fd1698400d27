-- The rows of the items of a state, one item more; and those of the states, one state more.
use Rattle.std.proofs.Common.{ℕ, zero, suc, ◌≡◌, ◌≢◌, ◌<◌, ◌≤◌, ◌+◌, ◌*◌, ◌⊎◌, List, [], ◌∷◌, ◌++◌}
use Rattle.std.proofs.Common.{length, get_or, take, refl, sym, ◌∙◌, ap, subst, inl, inr, arith}
use Rattle.std.proofs.Common.{Option, Some, None, get_or-set_same, get_or-set_other}
use Rattle.std.proofs.Math.ListN.{set, length-set}
use Rattle.ysymbols.specs.Grammar.{ContextFree, left_of, body_of}
use Rattle.ysymbols.specs.WellFormed.{WellFormed}
use Rattle.ylalr.specs.declared.items.Item.{Item}
use Rattle.ybitsets.specs.Limits.{most_states}
use Rattle.ylalr.specs.Sets.{Before, IsAscending, InRange}
use Rattle.ylalr.specs.States.{StateLists, set_at, start_item}
use Rattle.ylalr.specs.ItemRows.{ItemRows, At, Starts, Shares, AreRows, FillRows, AreLefts}
use Rattle.ylalr.specs.ItemRows.{TakesRow}
use Rattle.ylalr.specs.ItemRows.{AreItemRows, HasTwin, TakesOne}
use Rattle.ylalr.proofs.StateSteps.{push_old, push_new, push_length}
use Rattle.ysymbols.proofs.Numbers.{below_or_last}
use Rattle.std.proofs.lemmas.Bool.{cases_eq}

pub at_push : (xs : List Item) (rows : List ℕ) (x i : Item) (p t : ℕ) → length rows ≡ length xs →
    At (xs ++ x ∷ []) (rows ++ p ∷ []) i t → At xs rows i t ⊎ ((i ≡ x) × (t ≡ p))
at_push xs rows x i p t e a =
    go (below_or_last a.index (length xs) (subst (λ k. a.index < k) (push_length xs x) a.within))
  where
    go : (a.index < length xs) ⊎ (a.index ≡ length xs) → At xs rows i t ⊎ ((i ≡ x) × (t ≡ p))
    go (inl h) = inl (record {
      index = a.index;
      within = h;
      here = sym (push_old xs x i a.index h) ∙
          a.here;
      row = a.row ∙ push_old rows p 0 a.index (subst (λ k. a.index < k) (sym e) h);
    })
    go (inr h) = inr (
      sym a.here ∙ push_new xs x i a.index h,
      a.row ∙ push_new rows p 0 a.index
          (h ∙ sym e),
    )

pub at_kept : (xs : List Item) (rows : List ℕ) (x i : Item) (p t : ℕ) → length rows ≡ length xs →
    At xs rows i t → At (xs ++ x ∷ []) (rows ++ p ∷ []) i t
at_kept xs rows x i p t e a = record {
  index = a.index;
  within = (let l = push_length xs x in let h = a.within in omega (arith, l, h));
  here = push_old xs x i a.index a.within ∙ a.here;
  row = a.row ∙ sym (push_old rows p 0 a.index (subst (λ k. a.index < k) (sym e) a.within));
}

pub at_new : (xs : List Item) (rows : List ℕ) (x : Item) (p : ℕ) → length rows ≡ length xs →
    At (xs ++ x ∷ []) (rows ++ p ∷ []) x p
at_new xs rows x p e = record {
  index = length xs;
  within = (let l = push_length xs x in omega (arith, l));
  here = push_new xs x x (length xs) refl;
  row = sym (push_new rows p 0 (length xs) (sym e));
}

no_items : (rows : List ℕ) (i : Item) (p : ℕ) → At [] rows i p → ⊥
no_items rows i p a = let h = a.within in omega arith

-- sharing is an equivalence
shares_itself : (g : ContextFree) (i : Item) → Shares g i i
shares_itself g i = record { left = refl; dot = refl; before = refl }

shares_back : (g : ContextFree) (i k : Item) → Shares g i k → Shares g k i
shares_back g i k s = record { left = sym s.left; dot = sym s.dot; before = sym s.before }

shares_on : (g : ContextFree) (i k x : Item) → Shares g i k → Shares g k x → Shares g i x
shares_on g i k x s t = record {
  left = s.left ∙ t.left;
  dot = s.dot ∙ t.dot;
  before = s.before ∙ t.before;
}

-- items of one left side with the dot at 0 have nothing before it
pub starts_share : (g : ContextFree) (i k : Item) → i.dot ≡ 0 → k.dot ≡ 0 →
    left_of g i.rule ≡ left_of g k.rule → Shares g i k
starts_share g i k d e l = record {
  left = l;
  dot = d ∙ sym e;
  before = nothing i d ∙ sym (nothing k e);
}
  where
    nothing : (v : Item) → v.dot ≡ 0 → take v.dot (body_of g v.rule) ≡ []
    nothing v z = ap (λ n. take n (body_of g v.rule)) z

-- the rows and left sides of some items of a state
pub record Filling (g : ContextFree) (xs : List Item) (rows : List ℕ) (first end : ℕ)
    (lefts : List (Option ℕ)) : Type 0 where
  pub filled : FillRows g xs rows first end
  pub by_left : AreLefts g xs rows lefts

pub filling_none : (g : ContextFree) (first : ℕ) (lefts : List (Option ℕ)) →
    length lefts ≡ g.symbols → ((s : ℕ) → get_or lefts s None ≡ None) →
    Filling g [] [] first first lefts
filling_none g first lefts e none = record {
  filled = record {
    are = record {
      sized = refl;
      apart = λ i k p a b. absurd (no_items [] i p a);
      shared = λ i k p t a b d o. absurd (no_items [] i p a);
    };
    bounds = λ i p a. absurd (no_items [] i p a);
    rising = omega arith;
    short = omega arith;
  };
  by_left = record {
    sized = e;
    found = λ s p h. absurd (none_some (get_or lefts s None) p (none s) h);
    every = λ i p a d. absurd (no_items [] i p a);
  };
}
  where
    none_some : (o : Option ℕ) (p : ℕ) → o ≡ None → o ≡ Some p → ⊥
    none_some o p e h = cc

module _ (g : ContextFree) (xs : List Item) (rows : List ℕ) (first end next p : ℕ) (x : Item)
    (old new : List (Option ℕ)) (f : Filling g xs rows first end old)
    (hx : left_of g x.rule < g.symbols) (takes_one : TakesOne g xs rows x end old new p)
    (same : p ≡ end → next ≡ end + 1) (other : p ≢ end → next ≡ end) where
  ex : length rows ≡ length xs
  ex = f.filled.are.sized

  -- the row is that of an item before, which may share it, or a new one
  again : (p ≡ end) ⊎ HasTwin g xs rows x p
  again = go takes_one
    where
      go : TakesOne g xs rows x end old new p → (p ≡ end) ⊎ HasTwin g xs rows x p
      go (inl (inl t)) =
          let z = f.by_left.found (left_of g x.rule) p t.1 in
          inr (record {
            twin = z.0;
            at = z.1;
            shares = starts_share g z.0 x z.2.0 t.0 z.2.1;
          })
      go (inl (inr t)) = inl t.0
      go (inr t) = inr t.2

  far : (i : Item) → At xs rows i p → p ≡ end → ⊥
  far i a e = let z = (f.filled.bounds i p a).1 in omega arith

  -- an item before has the same row: both share it
  meets : (i : Item) → At xs rows i p → Shares g i x
  meets i a = go again
    where
      go : (p ≡ end) ⊎ HasTwin g xs rows x p → Shares g i x
      go (inl e) = absurd (far i a e)
      go (inr z) = shares_on g i z.twin x (f.filled.are.apart i z.twin p a z.at) z.shares

  some_same : (o : Option ℕ) (a b : ℕ) → o ≡ Some a → o ≡ Some b → a ≡ b
  some_same o a b e h = cc

  some_none : (o : Option ℕ) (a : ℕ) → o ≡ Some a → o ≡ None → ⊥
  some_none o a e h = cc

  -- what an item with the dot at 0 takes
  at_start : x.dot ≡ 0 → TakesRow g x end old new p
  at_start d = go takes_one
    where
      go : TakesOne g xs rows x end old new p → TakesRow g x end old new p
      go (inl t) = t
      go (inr t) = absurd (let w = t.0 in omega (arith, w, d))

  -- an item before that could share the row has it
  joined : (i : Item) (t : ℕ) → At xs rows i t → i.dot ≡ 0 → left_of g i.rule ≡ left_of g x.rule →
      x.dot ≡ 0 → t ≡ p
  joined i t a d el dx = go (at_start dx)
    where
      known : get_or old (left_of g x.rule) None ≡ Some t
      known = subst (λ s. get_or old s None ≡ Some t) el (f.by_left.every i t a d)

      go : TakesRow g x end old new p → t ≡ p
      go (inl z) = some_same (get_or old (left_of g x.rule) None) t p known z.1
      go (inr (e, inl z)) = absurd (let w = z.0 in omega arith)
      go (inr (e, inr z)) = absurd (some_none (get_or old (left_of g x.rule) None) t known z.1)

  apart : (i k : Item) (t : ℕ) → At xs rows i t ⊎ ((i ≡ x) × (t ≡ p)) → At xs rows k t ⊎
      ((k ≡ x) × (t ≡ p)) → Shares g i k
  apart i k t (inl a) (inl b) = f.filled.are.apart i k t a b
  apart i k t (inl a) (inr b) = subst (Shares g i) (sym b.0) (meets i (subst (At xs rows i) b.1 a))
  apart i k t (inr a) (inl b) = subst (λ (v : Item). Shares g v k) (sym a.0)
      (shares_back g k x (meets k (subst (At xs rows k) a.1 b)))
  apart i k t (inr a) (inr b) = subst (Shares g i) (a.0 ∙ sym b.0) (shares_itself g i)

  shared : (i k : Item) (t u : ℕ) → At xs rows i t ⊎ ((i ≡ x) × (t ≡ p)) → At xs rows k u ⊎
      ((k ≡ x) × (u ≡ p)) → i.dot ≡ 0 → Starts g (left_of g i.rule) k → t ≡ u
  shared i k t u (inl a) (inl b) d o = f.filled.are.shared i k t u a b d o
  shared i k t u (inl a) (inr b) d o = joined i t a d
      (sym o.1 ∙ ap (λ (v : Item). left_of g v.rule) b.0) (ap (λ (v : Item). v.dot) (sym b.0) ∙ o.0)
      ∙ sym b.1
  shared i k t u (inr a) (inl b) d o =
      a.1 ∙ sym (joined k u b o.0 (o.1 ∙ ap (λ (v : Item). left_of g v.rule) a.0)
      (ap (λ (v : Item). v.dot) (sym a.0) ∙ d))
  shared i k t u (inr a) (inr b) d o = a.1 ∙ sym b.1

  grown : end ≤ next
  grown = go (cases_eq p end)
    where
      go : (p ≡ end) ⊎ (p ≢ end) → end ≤ next
      go (inl e) = let z = same e in omega arith
      go (inr e) = let z = other e in omega arith

  little : next ≤ end + 1
  little = go (cases_eq p end)
    where
      go : (p ≡ end) ⊎ (p ≢ end) → next ≤ end + 1
      go (inl e) = let z = same e in omega arith
      go (inr e) = let z = other e in omega arith

  bounds : (i : Item) (t : ℕ) → At xs rows i t ⊎ ((i ≡ x) × (t ≡ p)) → (first ≤ t) × (t < next)
  bounds i t (inl a) = let z = f.filled.bounds i t a in let y = grown in
      (z.0, (let w = z.1 in omega arith))
  bounds i t (inr a) = go again
    where
      go : (p ≡ end) ⊎ HasTwin g xs rows x p → (first ≤ t) × (t < next)
      go (inl e) = let z = same e in let r = f.filled.rising in let h = a.1 in
          (omega arith, omega arith)
      go (inr z) = let w = f.filled.bounds z.twin p z.at in let u = w.0 in let v = w.1 in
          let y = grown in let h = a.1 in (omega arith, omega arith)

  found : (s t : ℕ) → get_or new s None ≡ Some t → (i : Item) × At (xs ++ x ∷ []) (rows ++ p ∷ []) i
      t × Starts g s i
  found s t e = go takes_one
    where
      kept : get_or old s None ≡ Some t → (i : Item) × At (xs ++ x ∷ []) (rows ++ p ∷ []) i t ×
          Starts g s i
      kept h = let z = f.by_left.found s t h in (z.0, at_kept xs rows x z.0 p t ex z.1, z.2)

      given : p ≡ end → (x.dot ≡ 0) → (s ≡ left_of g x.rule) ⊎ (s ≢ left_of g x.rule) →
          get_or (set old (left_of g x.rule) (Some end)) s None ≡ Some t →
          (i : Item) × At (xs ++ x ∷ []) (rows ++ p ∷ []) i t × Starts g s i
      given ep d (inl q) h =
          let z : Some end ≡ Some t = sym (get_or-set_same old (left_of g x.rule) (Some end) None
          (subst (λ k. left_of g x.rule < k) (sym f.by_left.sized) hx)) ∙ subst
          (λ k. get_or (set old (left_of g x.rule) (Some end)) k None ≡ Some t) q h in
          let et : p ≡ t = ep ∙ some_same (Some end) end t refl z in
          (x, subst (At (xs ++ x ∷ []) (rows ++ p ∷ []) x) et (at_new xs rows x p ex), (d, sym q))
      given ep d (inr q) h = kept (sym (get_or-set_other old (left_of g x.rule) s (Some end) None q)
          ∙ h)

      go : TakesOne g xs rows x end old new p → (i : Item) × At (xs ++ x ∷ []) (rows ++ p ∷ []) i
          t × Starts g s i
      go (inr z) = kept (subst (λ (l : List (Option ℕ)). get_or l s None ≡ Some t) z.1 e)
      go (inl (inl z)) = kept (subst (λ (l : List (Option ℕ)). get_or l s None ≡ Some t) z.2 e)
      go (inl (inr (ep, inl z))) =
          kept (subst (λ (l : List (Option ℕ)). get_or l s None ≡ Some t) z.1 e)
      go (inl (inr (ep, inr z))) = given ep z.0 (cases_eq s (left_of g x.rule))
          (subst (λ (l : List (Option ℕ)). get_or l s None ≡ Some t) z.2 e)

  every : (i : Item) (t : ℕ) → At xs rows i t ⊎ ((i ≡ x) × (t ≡ p)) → i.dot ≡ 0 →
      get_or new (left_of g i.rule) None ≡ Some t
  every i t (inl a) d = go takes_one
    where
      go : TakesOne g xs rows x end old new p → get_or new (left_of g i.rule) None ≡ Some t
      go (inr z) = subst (λ (l : List (Option ℕ)). get_or l (left_of g i.rule) None ≡ Some t)
          (sym z.1) (f.by_left.every i t a d)
      go (inl (inl z)) = subst (λ (l : List (Option ℕ)). get_or l (left_of g i.rule) None ≡ Some t)
          (sym z.2) (f.by_left.every i t a d)
      go (inl (inr (ep, inl z))) = subst (λ (l : List (Option ℕ)). get_or l (left_of g i.rule) None
          ≡ Some t) (sym z.1) (f.by_left.every i t a d)
      go (inl (inr (ep, inr z))) = subst (λ (l : List (Option ℕ)). get_or l (left_of g i.rule) None
          ≡ Some t) (sym z.2) (get_or-set_other old (left_of g x.rule) (left_of g i.rule) (Some end) None
          (λ q. some_none (get_or old (left_of g x.rule) None) t
          (subst (λ s. get_or old s None ≡ Some t) q (f.by_left.every i t a d)) z.1) ∙
          f.by_left.every i t a d)
  every i t (inr a) d = subst (λ (v : Item). get_or new (left_of g v.rule) None ≡ Some t) (sym a.0)
      (subst (λ k. get_or new (left_of g x.rule) None ≡ Some k) (sym a.1) (go (at_start dx)))
    where
      dx : x.dot ≡ 0
      dx = ap (λ (v : Item). v.dot) (sym a.0) ∙ d

      go : TakesRow g x end old new p → get_or new (left_of g x.rule) None ≡ Some p
      go (inl z) = subst (λ (l : List (Option ℕ)). get_or l (left_of g x.rule) None ≡ Some p)
          (sym z.2) z.1
      go (inr (ep, inl z)) = absurd (let w = z.0 in omega (arith, w, dx))
      go (inr (ep, inr z)) = subst (λ (l : List (Option ℕ)). get_or l (left_of g x.rule) None ≡ Some
          p) (sym z.2) (get_or-set_same old (left_of g x.rule) (Some end) None
          (subst (λ k. left_of g x.rule < k) (sym f.by_left.sized) hx) ∙ ap (λ k. Some k) (sym ep))

  size : length new ≡ g.symbols
  size = go takes_one
    where
      go : TakesOne g xs rows x end old new p → length new ≡ g.symbols
      go (inr z) = ap (λ (l : List (Option ℕ)). length l) z.1 ∙ f.by_left.sized
      go (inl (inl z)) = ap (λ (l : List (Option ℕ)). length l) z.2 ∙ f.by_left.sized
      go (inl (inr (ep, inl z))) = ap (λ (l : List (Option ℕ)). length l) z.1 ∙ f.by_left.sized
      go (inl (inr (ep, inr z))) = ap (λ (l : List (Option ℕ)). length l) z.2 ∙ length-set old
          (left_of g x.rule) (Some end) ∙ f.by_left.sized

  pub filling_push : Filling g (xs ++ x ∷ []) (rows ++ p ∷ []) first next new
  filling_push = record {
    filled = record {
      are = record {
        sized = push_length rows p ∙ ap (λ k. k + 1) ex ∙ sym (push_length xs x);
        apart = λ i k t a b. apart i k t (at_push xs rows x i p t ex a)
            (at_push xs rows x k p t ex b);
        shared = λ i k t u a b d o. shared i k t u (at_push xs rows x i p t ex a)
            (at_push xs rows x k p u ex b) d o;
      };
      bounds = λ i t a. bounds i t (at_push xs rows x i p t ex a);
      rising = (let y = grown in let z = f.filled.rising in omega arith);
      short = (let y = little in let z = f.filled.short in let l = push_length xs x in
          omega (arith, y, z, l));
    };
    by_left = record {
      sized = size;
      found = found;
      every = λ i t a d. every i t (at_push xs rows x i p t ex a) d;
    };
  }

-- the rows of the states below q
pub record Placing (g : ContextFree) (s : StateLists) (q : ℕ) (rows : List (List ℕ))
    (total : ℕ) : Type 0 where
  pub sized : length rows ≡ q
  pub each : (n : ℕ) → n < q → AreRows g (set_at s.closures n) (get_or rows n [])
  pub below : (n : ℕ) (i : Item) (p : ℕ) → n < q → At (set_at s.closures n) (get_or rows n []) i p →
      p < total
  pub apart : (n m : ℕ) (i k : Item) (p : ℕ) → n < q → m < q → At (set_at s.closures n)
      (get_or rows n []) i p → At (set_at s.closures m) (get_or rows m []) k p → n ≡ m
  pub small : total ≤ q * 2097152

pub placing_push : (g : ContextFree) (s : StateLists) (q : ℕ) (rows more : List (List ℕ))
    (list : List ℕ) (total end : ℕ) → Placing g s q rows total → more ≡ rows ++ list ∷ [] →
    FillRows g (set_at s.closures q) list total end → length (set_at s.closures q) ≤ 2097152 →
    Placing g s (q + 1) more end
placing_push g s q rows more list total end p em f hn = subst (λ xs. Placing g s (q + 1) xs end)
    (sym em) (record {
      sized = push_length rows list ∙ ap (λ n. n + 1) p.sized;
      each = λ n h. each n (below_or_last n q h);
      below = λ n i t h a. below n i t (below_or_last n q h) a;
      apart = λ n m i k t h l a b. apart n m i k t (below_or_last n q h) (below_or_last m q l) a b;
      small = (let a = p.small in let b = f.short in omega (arith, a, b, hn));
    })
  where
    old : (n : ℕ) → n < q → get_or (rows ++ list ∷ []) n [] ≡ get_or rows n []
    old n h = push_old rows list [] n (subst (λ k. n < k) (sym p.sized) h)

    new : (n : ℕ) → n ≡ q → get_or (rows ++ list ∷ []) n [] ≡ list
    new n e = push_new rows list [] n (e ∙ sym p.sized)

    at_old : (n t : ℕ) (i : Item) → n < q → At (set_at s.closures n)
        (get_or (rows ++ list ∷ []) n []) i t → At (set_at s.closures n) (get_or rows n []) i t
    at_old n t i h a = subst (λ xs. At (set_at s.closures n) xs i t) (old n h) a

    at_last : (n t : ℕ) (i : Item) → n ≡ q → At (set_at s.closures n)
        (get_or (rows ++ list ∷ []) n []) i t → At (set_at s.closures q) list i t
    at_last n t i e a = subst (λ k. At (set_at s.closures k) list i t) e
        (subst (λ xs. At (set_at s.closures n) xs i t) (new n e) a)

    each : (n : ℕ) → (n < q) ⊎ (n ≡ q) → AreRows g (set_at s.closures n)
        (get_or (rows ++ list ∷ []) n [])
    each n (inl h) = subst (AreRows g (set_at s.closures n)) (sym (old n h)) (p.each n h)
    each n (inr e) = subst (AreRows g (set_at s.closures n)) (sym (new n e))
        (subst (λ k. AreRows g (set_at s.closures k) list) (sym e) f.are)

    below : (n : ℕ) (i : Item) (t : ℕ) → (n < q) ⊎ (n ≡ q) → At (set_at s.closures n)
        (get_or (rows ++ list ∷ []) n []) i t → t < end
    below n i t (inl h) a = let z = p.below n i t h (at_old n t i h a) in let w = f.rising in
        omega arith
    below n i t (inr e) a = (f.bounds i t (at_last n t i e a)).1

    apart : (n m : ℕ) (i k : Item) (t : ℕ) → (n < q) ⊎ (n ≡ q) → (m < q) ⊎
        (m ≡ q) → At (set_at s.closures n) (get_or (rows ++ list ∷ []) n []) i t →
        At (set_at s.closures m) (get_or (rows ++ list ∷ []) m []) k t → n ≡ m
    apart n m i k t (inl h) (inl l) a b = p.apart n m i k t h l (at_old n t i h a)
        (at_old m t k l b)
    apart n m i k t (inl h) (inr l) a b = absurd (let y = p.below n i t h (at_old n t i h a) in
        let z = (f.bounds k t (at_last m t k l b)).0 in omega arith)
    apart n m i k t (inr h) (inl l) a b = absurd (let y = p.below m k t l (at_old m t k l b) in
        let z = (f.bounds i t (at_last n t i h a)).0 in omega arith)
    apart n m i k t (inr h) (inr l) a b = h ∙ sym l

pub placing_all : (g : ContextFree) (s : StateLists) (q : ℕ) (l : ItemRows) → q ≡ length s.closures →
    length s.closures ≤ most_states → Placing g s q l.rows l.total → AreItemRows g s l
placing_all g s q l e few p = record {
  sized = p.sized ∙ e;
  rows = λ n h. p.each n (subst (λ t. n < t) (sym e) h);
  below = λ n i t z. p.below n i t (subst (λ k. n < k) (sym e) z.state) z.at;
  apart = λ n m i k t y z. p.apart n m i k t (subst (λ j. n < j) (sym e) y.state)
      (subst (λ j. m < j) (sym e) z.state) y.at z.at;
  small = (let a = p.small in omega (arith, a, e, few));
}

-- items by rule and dot are at most as many as there are numbers for them
pub few_items : (g : ContextFree) → WellFormed g → (w : List Item) → IsAscending w → InRange g w →
    length w ≤ 2097152
few_items g f w asc range = go (or_less (length w))
  where
    rank : (k : ℕ) → k < length w → k ≤ (get_or w k start_item).rule * 256 +
        (get_or w k start_item).dot
    rank zero h = omega arith
    rank (suc k) h =
        let z = rank k (omega arith) in
        let b = asc k (suc k) start_item (omega arith) h in
        let r = range k start_item (omega arith) in
        let d = f.short (get_or w k start_item).rule r.0 in
        let e = r.1 in
        step (get_or w k start_item) (get_or w (suc k) start_item) b z (omega arith)
      where
        step : (i j : Item) → Before i j → k ≤ i.rule * 256 + i.dot → i.dot ≤ 255 →
            suc k ≤ j.rule * 256 + j.dot
        step i j (inl b) z d = omega arith
        step i j (inr b) z d = let x = b.0 in let y = b.1 in omega arith

    or_less : (n : ℕ) → (n ≤ 2097152) ⊎ (2097152 < n)
    or_less n = grind arith

    go : (length w ≤ 2097152) ⊎ (2097152 < length w) → length w ≤ 2097152
    go (inl h) = h
    go (inr h) = absurd (
        let z = rank 2097152 h in
        let r = range 2097152 start_item h in
        let d = f.short (get_or w 2097152 start_item).rule r.0 in
        let x = r.0 in let y = r.1 in let u = f.few in
        omega arith)
