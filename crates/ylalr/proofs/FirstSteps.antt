-- Rows of first tokens: links carry them, and rows that are spread along links have all.
use Rattle.std.proofs.Common.{ℕ, zero, suc, Bool, ◌≡◌, ◌<◌, List, [], ◌∷◌, ◌++◌}
use Rattle.std.proofs.Common.{length, get_or, take, drop, refl, sym, ap, subst}
use Rattle.std.proofs.Common.{arith}
use Rattle.std.specs.List.{All}
use Rattle.std.proofs.lemmas.List.Elements.{All-nil, All-cons, All-head, All-tail}
use Rattle.ysymbols.specs.Grammar.{ContextFree, left_of, body_of, IsToken}
use Rattle.ysymbols.specs.Derivation.{done}
use Rattle.ysymbols.specs.Forms.{First, MarksNullable, Nullable}
use Rattle.ysymbols.specs.WellFormed.{WellFormed}
use Rattle.ysymbols.proofs.DrainSteps.{marked_below}
use Rattle.ylalr.specs.Behind.{FormHas}
use Rattle.ybitsets.specs.Marks.{Has}
use Rattle.ybitsets.specs.Rows.{BitRows, Holds}
use Rattle.ybitsets.specs.Links.{Reaches, given, passed, IsSpread}
use Rattle.ylalr.specs.First.{IsNullable, IsFirst}
use Rattle.ylalr.specs.Fronts.{AreFrontLinks, HasEach}
use Rattle.ylalr.proofs.Vanish.{Vanishes, none, more, nullable_from_vanishes, vanishes_append}
use Rattle.ylalr.proofs.Vanish.{vanishes_from_nullable}
use Rattle.ylalr.proofs.Begins.{Begins, here, over, into, begins_append, begins_past}
use Rattle.ylalr.proofs.Begins.{begins_from_first, first_is}

-- the marks of a well-formed grammar's nullable symbols, over all numbers
pub all_nullable : (g : ContextFree) (m : List Bool) → WellFormed g → MarksNullable g m →
    IsNullable g m
all_nullable g m w h s = (
  λ k. (h.exact s (subst (λ (n : ℕ). s < n) h.each (marked_below m s k))).0 k,
  λ d. (h.exact s (below (vanishes_from_nullable d))).1 d,
)
  where
    below : Vanishes g (s ∷ []) → s < g.symbols
    below (more r i e b v) = subst (λ (n : ℕ). n < g.symbols) (sym e) (w.left r i)

-- marked symbols all vanish
vanishing_form : (g : ContextFree) (m : List Bool) → ((s : ℕ) → Has m s → Nullable g (s ∷ [])) →
    (x : List ℕ) → All (Has m) x → Vanishes g x
vanishing_form g m f [] h = none
vanishing_form g m f (s ∷ x) h = vanishes_append
    (vanishes_from_nullable (f s (All-head (Has m) s x h))) x
    (vanishing_form g m f x (All-tail (Has m) s x h))

pub marked_form : (g : ContextFree) (n : List Bool) → IsNullable g n → (x : List ℕ) →
    All (Has n) x → Vanishes g x
marked_form g n h x a = vanishing_form g n (λ s. (h s).0) x a

pub form_marked : {g : ContextFree} (n : List Bool) {x : List ℕ} → IsNullable g n → Vanishes g x →
    All (Has n) x
form_marked n h none = All-nil (Has n)
form_marked n h (more {s = s} {x = x} r k e b v) = All-cons (Has n) s x
    ((h s).1 (nullable_from_vanishes (more r k e b none))) (form_marked n h v)

pub lr0 : (x : List ℕ) (k : ℕ) → k < length x → x ≡ take k x ++ get_or x k 0 ∷ drop (suc k) x
lr0 [] k h = absurd (omega arith)
lr0 (s ∷ x) zero h = refl
lr0 (s ∷ x) (suc k) h = ap (λ y. s ∷ y) (lr0 x k (omega arith))

-- what a symbol of a body begins with, where all before it vanish, the left side begins with
pub first_of_row : (g : ContextFree) (n : List Bool) (r k t : ℕ) → IsNullable g n →
    r < length g.rules → k < length (body_of g r) → All (Has n) (take k (body_of g r)) →
    First g (get_or (body_of g r) k 0 ∷ []) t → First g (left_of g r ∷ []) t
first_of_row g n r k t h w l a f =
    let x = body_of g r in
    let z : Begins g t (take k x ++ get_or x k 0 ∷ drop (suc k) x) =
    begins_past (marked_form g n h (take k x) a) (get_or x k 0 ∷ drop (suc k) x)
    (begins_append (begins_from_first f) (drop (suc k) x)) in
    first_is g t (left_of g r ∷ []) f.token
    (into r w refl (subst (Begins g t) (sym (lr0 x k l)) z))

pub token_first : (g : ContextFree) (t : ℕ) → t < g.tokens → First g (t ∷ []) t
token_first g t h = record { token = h; rest = []; derives = done }

-- what stands in rows that are spread along such links
module _ (g : ContextFree) (n : List Bool) (l : List (List ℕ)) (m o : BitRows) (h : IsNullable g n)
    (a : AreFrontLinks g n (length g.rules) l) (k : HasEach (λ t. t) g.tokens m)
    (x : IsSpread l m o) where
  sound : {s t : ℕ} → Reaches l m s t → First g (s ∷ []) t
  sound (given {p = s} {c = t} y) = let z = (k s t).0 y in
      subst (λ u. First g (u ∷ []) t) (sym z.1) (token_first g t z.0)
  sound (passed {p = p} {t = s} {c = t} z y) =
      let w = (a.exact p s).0 y in
      let f = w.front in
      subst (λ u. First g (u ∷ []) t) (sym w.left) (first_of_row g n w.rule f.place t h w.below
      f.within f.before (subst (λ u. First g (u ∷ []) t) (sym f.here) (sound z)))

  has : {t : ℕ} {y : List ℕ} → IsToken g t → Begins g t y → FormHas n o y t
  has {t = t} i here = record {
    place = 0;
    within = omega arith;
    before = All-nil (Has n);
    there = (x t t).1 (given ((k t t).1 (i, refl)));
  }
  has i (over {s = s} {x = y} v b) =
      let w = has i b in
      record {
        place = suc w.place;
        within = (let j = w.within in omega (arith, j));
        before = All-cons (Has n) s (take w.place y) ((h s).1 (nullable_from_vanishes v))
            w.before;
        there = w.there;
      }
  has {t = t} i (into {s = s} r j e b) =
      let w = has i b in
      let p = get_or (body_of g r) w.place 0 in
      let z = passed ((x p t).0 w.there) ((a.exact p (left_of g r)).1 (record {
        rule = r;
        below = j;
        left = refl;
        front = record {
          place = w.place;
          within = w.within;
          before = w.before;
          here = refl;
        };
      })) in
      record {
        place = 0;
        within = omega arith;
        before = All-nil (Has n);
        there =
            subst (λ u. Holds o u t) (sym e) ((x (left_of g r) t).1 z);
      }

  pub first_spread : IsFirst g o
  first_spread s t = (λ y. sound ((x s t).0 y), back)
    where
      at : (p : ℕ) → p < 1 → Holds o (get_or (s ∷ []) p 0) t → Holds o s t
      at zero j z = z
      at (suc p) j z = absurd (omega arith)

      back : First g (s ∷ []) t → Holds o s t
      back d = let w = has d.token (begins_from_first d) in at w.place w.within w.there
