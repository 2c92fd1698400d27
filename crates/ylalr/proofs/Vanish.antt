-- A form that vanishes, by recursion on the form: the other reading of `Nullable`.
use Rattle.std.proofs.Common.{ℕ, ◌≡◌, ◌<◌, List, [], ◌∷◌, ◌++◌, length}
use Rattle.ysymbols.specs.Derivation.{Replaces, Derives, done, step}
use Rattle.ysymbols.specs.Grammar.{ContextFree, left_of, body_of}
use Rattle.ysymbols.specs.Forms.{IsRule, Nullable}
use Rattle.ysymbols.proofs.Derivations.{trans, replaced, beside, rule_is}

pub data Vanishes (g : ContextFree) : List ℕ → Type 0 where
  none : Vanishes g []
  more : {s : ℕ} {x : List ℕ} (r : ℕ) → r < length g.rules → s ≡ left_of g r →
      Vanishes g (body_of g r) → Vanishes g x → Vanishes g (s ∷ x)

pub vanishes_append : {g : ContextFree} {x : List ℕ} → Vanishes g x → (y : List ℕ) → Vanishes g y →
    Vanishes g (x ++ y)
vanishes_append none y w = w
vanishes_append (more r h e b v) y w = more r h e b (vanishes_append v y w)

pub vanishes_left : {g : ContextFree} (x y : List ℕ) → Vanishes g (x ++ y) → Vanishes g x
vanishes_left [] y v = none
vanishes_left (s ∷ x) y (more r h e b v) = more r h e b (vanishes_left x y v)

pub vanishes_right : {g : ContextFree} (x y : List ℕ) → Vanishes g (x ++ y) → Vanishes g y
vanishes_right [] y v = v
vanishes_right (s ∷ x) y (more r h e b v) = vanishes_right x y v

back_one : (g : ContextFree) (x y : List ℕ) → Replaces (IsRule g) x y → Vanishes g y → Vanishes g x
back_one g x y s v =
    let w : Vanishes g (s.before ++ (s.body ++ s.after)) = rw (← s.to) v in
    let m = vanishes_right s.before (s.body ++ s.after) w in
    let b : Vanishes g (body_of g s.rule.number) = rw (← s.rule.body)
    (vanishes_left s.body s.after m) in
    rw s.from (vanishes_append (vanishes_left s.before (s.body ++ s.after) w)
    (s.symbol ∷ s.after)
    (more s.rule.number s.rule.within s.rule.left b (vanishes_right s.body s.after m)))

vanishes_back : {g : ContextFree} {x y : List ℕ} → Derives (IsRule g) x y → Vanishes g y →
    Vanishes g x
vanishes_back done v = v
vanishes_back {g = g} (step {x = x} {y = y} s d) v = back_one g x y s (vanishes_back d v)

pub vanishes_from_nullable : {g : ContextFree} {x : List ℕ} → Nullable g x → Vanishes g x
vanishes_from_nullable d = vanishes_back d none

pub nullable_from_vanishes : {g : ContextFree} {x : List ℕ} → Vanishes g x → Nullable g x
nullable_from_vanishes none = done
nullable_from_vanishes {g = g} (more {s = s} {x = x} r h e b v) =
    rw e (trans (replaced (left_of g r) (body_of g r) [] x (rule_is g r h))
    (beside (nullable_from_vanishes b) (nullable_from_vanishes v)))
