-- The first tokens of a form, by recursion on the form: the other reading of `First`.
use Rattle.std.proofs.Common.{ℕ, ◌≡◌, ◌<◌, List, [], ◌∷◌, ◌++◌, length, inl, inr, ◌⊎◌}
use Rattle.ysymbols.specs.Derivation.{Replaces, Derives, done, step}
use Rattle.ysymbols.specs.Grammar.{ContextFree, left_of, body_of, IsToken}
use Rattle.ysymbols.specs.Forms.{IsRule, First}
use Rattle.ylalr.proofs.Vanish.{Vanishes, none, more, vanishes_append, nullable_from_vanishes}
use Rattle.ysymbols.proofs.Derivations.{trans, replaced, beside, rule_is}

pub data Begins (g : ContextFree) (t : ℕ) : List ℕ → Type 0 where
  here : {x : List ℕ} → Begins g t (t ∷ x)
  over : {s : ℕ} {x : List ℕ} → Vanishes g (s ∷ []) → Begins g t x → Begins g t (s ∷ x)
  into : {s : ℕ} {x : List ℕ} (r : ℕ) → r < length g.rules → s ≡ left_of g r →
      Begins g t (body_of g r) → Begins g t (s ∷ x)

pub begins_append : {g : ContextFree} {t : ℕ} {x : List ℕ} → Begins g t x → (y : List ℕ) →
    Begins g t (x ++ y)
begins_append here y = here
begins_append (over v b) y = over v (begins_append b y)
begins_append (into r h e b) y = into r h e b

-- over a front that vanishes
pub begins_past : {g : ContextFree} {t : ℕ} {x : List ℕ} → Vanishes g x → (y : List ℕ) →
    Begins g t y → Begins g t (x ++ y)
begins_past none y b = b
begins_past (more r h e v w) y b = over (more r h e v none) (begins_past w y b)

-- it begins in x, or x vanishes and it begins in y
pub begins_split : {g : ContextFree} {t : ℕ} (x y : List ℕ) → Begins g t (x ++ y) → Begins g t x ⊎
    (Vanishes g x × Begins g t y)
begins_split [] y b = inr (none, b)
begins_split (s ∷ x) y here = inl here
begins_split {g = g} {t = t} (s ∷ x) y (over v b) =
    elim (begins_split x y b) as (λ q. Begins g t (s ∷ x) ⊎ (Vanishes g (s ∷ x) × Begins g t y))
    [ inl p ↦ inl (over v p) | inr p ↦ inr (vanishes_append v x p.0, p.1) ]
begins_split (s ∷ x) y (into r h e b) = inl (into r h e b)

-- one replacement backwards
begins_front : {g : ContextFree} {t n : ℕ} {body : List ℕ} (before after : List ℕ) →
    IsRule g n body → Begins g t (before ++ (body ++ after)) → Begins g t (before ++ n ∷ after)
begins_front {g = g} {t = t} {n = n} {body = body} [] after r b =
    elim (begins_split body after b) as (λ q. Begins g t (n ∷ after)) [
      | inl p ↦ into r.number r.within r.left (rw (← r.body) p)
      | inr p ↦ over (more r.number r.within r.left (rw (← r.body) p.0) none) p.1
    ]
begins_front (s ∷ before) after r here = here
begins_front (s ∷ before) after r (over v b) = over v (begins_front before after r b)
begins_front (s ∷ before) after r (into q k e b) = into q k e b

begins_one : (g : ContextFree) (t : ℕ) (x y : List ℕ) → Replaces (IsRule g) x y → Begins g t y →
    Begins g t x
begins_one g t x y s b =
    let w : Begins g t (s.before ++ (s.body ++ s.after)) = rw (← s.to) b in
    rw s.from (begins_front s.before s.after s.rule w)

begins_back : {g : ContextFree} {t : ℕ} {x y : List ℕ} → Derives (IsRule g) x y → Begins g t y →
    Begins g t x
begins_back done b = b
begins_back {g = g} {t = t} (step {x = x} {y = y} s d) b = begins_one g t x y s (begins_back d b)

pub begins_from_first : {g : ContextFree} {x : List ℕ} {t : ℕ} → First g x t → Begins g t x
begins_from_first f = begins_back f.derives here

pub first_from_begins : {g : ContextFree} {t : ℕ} {x : List ℕ} → IsToken g t → Begins g t x →
    (w : List ℕ) × Derives (IsRule g) x (t ∷ w)
first_from_begins k (here {x = x}) = (x, done)
first_from_begins {g = g} k (over {s = s} {x = x} v b) =
    let f = first_from_begins k b in
    (f.0, beside (nullable_from_vanishes v) f.1)
first_from_begins {g = g} k (into {s = s} {x = x} r h e b) =
    let f = first_from_begins k b in
    let d : Derives (IsRule g) (left_of g r ∷ x) (body_of g r ++ x) =
    replaced (left_of g r) (body_of g r) [] x (rule_is g r h) in
    (f.0 ++ x, rw e (trans d (beside f.1 (done {x = x}))))

pub first_is : (g : ContextFree) (t : ℕ) (x : List ℕ) → IsToken g t → Begins g t x → First g x t
first_is g t x k b =
    let f = first_from_begins k b in
    record { token = k; rest = f.0; derives = f.1 }
