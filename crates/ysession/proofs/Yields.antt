-- The tokens that a form becomes, by recursion on the form: the other reading of a derivation of
-- tokens (Aho, Sethi and Ullman, 4.2). Where a list of symbols is cut in two ways.
use Rattle.std.proofs.Common.{ℕ, ◌≡◌, ◌<◌, ◌⊎◌, inl, inr, List, [], ◌∷◌, ◌++◌, length, drop}
use Rattle.std.proofs.Common.{get_or, refl, sym, ◌∙◌, ap, append_assoc, arith}
use Rattle.std.specs.List.{All}
use Rattle.std.proofs.lemmas.List.Elements.{All-nil, All-cons, All-head, All-tail, All-append}
use Rattle.ysymbols.specs.Grammar.{ContextFree, left_of, body_of, IsToken}
use Rattle.ysymbols.specs.Derivation.{Replaces, Derives, done, step}
use Rattle.ysymbols.specs.Forms.{IsRule}
use Rattle.ysymbols.specs.WellFormed.{WellFormed}
use Rattle.ysymbols.proofs.Derivations.{trans, beside, replaced, rule_is}

-- what holds of all elements holds of those in front, of those after, and of one between
pub all_front : {X : Type 0} (P : X → Type 0) (xs ys : List X) → All P (xs ++ ys) → All P xs
all_front P [] ys h = All-nil P
all_front P (x ∷ xs) ys h =
    All-cons P x xs (All-head P x (xs ++ ys) h) (all_front P xs ys (All-tail P x (xs ++ ys) h))

pub all_back : {X : Type 0} (P : X → Type 0) (xs ys : List X) → All P (xs ++ ys) → All P ys
all_back P [] ys h = h
all_back P (x ∷ xs) ys h = all_back P xs ys (All-tail P x (xs ++ ys) h)

pub all_middle : {X : Type 0} (P : X → Type 0) (xs : List X) (x : X) (ys : List X)
    → All P (xs ++ x ∷ ys) → P x
all_middle P xs x ys h = All-head P x ys (all_back P xs (x ∷ ys) h)

-- the first of a list and what is after it
pub head_is : (x y : ℕ) (xs ys : List ℕ) → x ∷ xs ≡ y ∷ ys → x ≡ y
head_is x y xs ys e = ap (λ z. get_or z 0 0) e

pub tail_is : (x y : ℕ) (xs ys : List ℕ) → x ∷ xs ≡ y ∷ ys → xs ≡ ys
tail_is x y xs ys e = ap (drop 1) e

pub cons_is : {X : Type 0} (x y : X) (xs ys : List X) → x ≡ y → xs ≡ ys → x ∷ xs ≡ y ∷ ys
cons_is x y xs ys e f = ap (λ z. z ∷ xs) e ∙ ap (λ z. y ∷ z) f

pub no_cons : (x : ℕ) (xs : List ℕ) → [] ≡ x ∷ xs → ⊥
no_cons x xs e = let l : 0 ≡ length (x ∷ xs) = ap length e in omega (arith, l)

pub no_middle : (front : List ℕ) (b : ℕ) (behind : List ℕ) → [] ≡ front ++ b ∷ behind → ⊥
no_middle [] b behind e = no_cons b behind e
no_middle (c ∷ front) b behind e = no_cons c (front ++ b ∷ behind) e

-- where the element in the middle of one cutting lies in another
abbrev pub Cut : List ℕ → List ℕ → List ℕ → ℕ → List ℕ → Type 0
Cut xs ys before b behind =
    ((mid : List ℕ) × (xs ≡ before ++ b ∷ mid) × (behind ≡ mid ++ ys))
    ⊎ ((mid : List ℕ) × (before ≡ xs ++ mid) × (ys ≡ mid ++ b ∷ behind))

pub cut : (xs ys before : List ℕ) (b : ℕ) (behind : List ℕ) → xs ++ ys ≡ before ++ b ∷ behind
    → Cut xs ys before b behind
cut [] ys before b behind e = inr (before, refl, e)
cut (x ∷ xs) ys [] b behind e =
    inl (
      xs,
      ap (λ z. z ∷ xs) (head_is x b (xs ++ ys) behind e),
      sym (tail_is x b (xs ++ ys) behind e),
    )
cut (x ∷ xs) ys (c ∷ before) b behind e =
    by (cut xs ys before b behind (tail_is x c (xs ++ ys) (before ++ b ∷ behind) e))
  where
    h : x ≡ c
    h = head_is x c (xs ++ ys) (before ++ b ∷ behind) e

    by : Cut xs ys before b behind → Cut (x ∷ xs) ys (c ∷ before) b behind
    by (inl l) = inl (l.0, cons_is x c xs (before ++ b ∷ l.0) h l.1, l.2)
    by (inr r) = inr (r.0, cons_is c x before (xs ++ r.0) (sym h) r.1, r.2)

-- y is x with one left side replaced by its rule's body, the rule by its number
pub record Uses (g : ContextFree) (x y : List ℕ) : Type 0 where
  pub before : List ℕ
  pub rule : ℕ
  pub after : List ℕ
  pub within : rule < length g.rules
  pub from : x ≡ before ++ left_of g rule ∷ after
  pub to : y ≡ before ++ (body_of g rule ++ after)

abbrev pub uses : {g : ContextFree} {x y : List ℕ} → Replaces (IsRule g) x y → Uses g x y
uses s = record {
  before = s.before;
  rule = s.rule.number;
  after = s.after;
  within = s.rule.within;
  from = s.from ∙ ap (λ z. s.before ++ z ∷ s.after) s.rule.left;
  to = s.to ∙ ap (λ z. s.before ++ (z ++ s.after)) s.rule.body;
}

-- The form becomes these tokens.
pub data Yields (g : ContextFree) : List ℕ → List ℕ → Type 0 where
  none : Yields g [] []
  token : {t : ℕ} {x w : List ℕ} → IsToken g t → Yields g x w → Yields g (t ∷ x) (t ∷ w)
  rule : {s : ℕ} {x u w v : List ℕ} (r : ℕ) → r < length g.rules → s ≡ left_of g r → v ≡ u ++ w
      → Yields g (body_of g r) u → Yields g x w → Yields g (s ∷ x) v

pub yields_tokens : {g : ContextFree} {x w : List ℕ} → Yields g x w → All (IsToken g) w
yields_tokens {g = g} none = All-nil (IsToken g)
yields_tokens {g = g} (token {t = t} {w = w} k y) =
    All-cons (IsToken g) t w k (yields_tokens y)
yields_tokens {g = g} (rule {u = u} {w = w} r h e v b y) =
    rw v (All-append (IsToken g) u w (yields_tokens b) (yields_tokens y))

pub yields_append : {g : ContextFree} {x u : List ℕ} → Yields g x u → (y v : List ℕ) → Yields g y v
    → Yields g (x ++ y) (u ++ v)
yields_append none y v z = z
yields_append (token k a) y v z = token k (yields_append a y v z)
yields_append (rule {u = u} {w = w} r h e f b a) y v z =
    rule r h e (rw f (append_assoc u w v)) b (yields_append a y v z)

-- What a form of two parts becomes has two parts.
pub record Split (g : ContextFree) (x y w : List ℕ) : Type 0 where
  pub front : List ℕ
  pub back : List ℕ
  pub parts : w ≡ front ++ back
  pub left : Yields g x front
  pub right : Yields g y back

pub yields_split : {g : ContextFree} {w : List ℕ} (x y : List ℕ) → Yields g (x ++ y) w
    → Split g x y w
yields_split {w = w} [] y a =
    record { front = []; back = w; parts = refl; left = none; right = a }
yields_split (s ∷ x) y (token {t = t} k a) =
    let q = yields_split x y a in
    record {
      front = t ∷ q.front;
      back = q.back;
      parts = ap (λ z. t ∷ z) q.parts;
      left = token k q.left;
      right = q.right;
    }
yields_split (s ∷ x) y (rule {u = u} {w = w} {v = v} r h e f b a) =
    let q = yields_split x y a in
    record {
      front = u ++ q.front;
      back = q.back;
      parts = f ∙ (ap (λ z. u ++ z) q.parts ∙ sym (append_assoc u q.front q.back));
      left = rule r h e refl b q.left;
      right = q.right;
    }

-- a list of tokens becomes itself
pub yields_self : {g : ContextFree} (w : List ℕ) → All (IsToken g) w → Yields g w w
yields_self [] h = none
yields_self {g = g} (t ∷ w) h =
    token (All-head (IsToken g) t w h) (yields_self w (All-tail (IsToken g) t w h))

-- nothing becomes nothing
pub yields_nothing : {g : ContextFree} {x u : List ℕ} → Yields g x u → x ≡ [] → u ≡ []
yields_nothing none e = refl
yields_nothing (token {t = t} {x = x} k y) e = absurd (no_cons t x (sym e))
yields_nothing (rule {s = s} {x = x} r h f v b y) e = absurd (no_cons s x (sym e))

-- a token becomes itself
pub yields_token : {g : ContextFree} (t : ℕ) → WellFormed g → IsToken g t → (u : List ℕ)
    → Yields g (t ∷ []) u → u ≡ t ∷ []
yields_token t w k u (token i j) = ap (λ c. t ∷ c) (yields_nothing j refl)
yields_token t w k u (rule r h e f b j) = let l = w.nonterminal r h in absurd (omega (arith, e, l, k))

-- one replacement backward
pub yields_back : (g : ContextFree) (before : List ℕ) (r : ℕ) (after w : List ℕ)
    → r < length g.rules → Yields g (before ++ (body_of g r ++ after)) w
    → Yields g (before ++ left_of g r ∷ after) w
yields_back g before r after w h a =
    let p = yields_split before (body_of g r ++ after) a in
    let q = yields_split (body_of g r) after p.right in
    rw p.parts (yields_append p.left (left_of g r ∷ after) p.back
    (rule r h refl q.parts q.left q.right))

-- a whole derivation backward
pub yields_derived : {g : ContextFree} {x y w : List ℕ} → Derives (IsRule g) x y → Yields g y w
    → Yields g x w
yields_derived done z = z
yields_derived {g = g} {w = w} (step s d) z =
    let u = uses s in
    rw u.from (yields_back g u.before u.rule u.after w u.within (rw u.to at (yields_derived d z)))

pub yields_from_derives : {g : ContextFree} {x w : List ℕ} → Derives (IsRule g) x w
    → All (IsToken g) w → Yields g x w
yields_from_derives {w = w} d h = yields_derived d (yields_self w h)

pub derives_from_yields : {g : ContextFree} {x w : List ℕ} → Yields g x w → Derives (IsRule g) x w
derives_from_yields none = done
derives_from_yields (token {t = t} k a) = beside (done {x = t ∷ []}) (derives_from_yields a)
derives_from_yields {g = g} (rule {s = s} {x = x} r h e f b a) =
    rw (e, f) (trans (replaced (left_of g r) (body_of g r) [] x (rule_is g r h))
    (beside (derives_from_yields b) (derives_from_yields a)))
