-- The rules of the symbol that is taken, and the lists that a worklist reads.
use Rattle.std.proofs.Common.{ℕ, zero, suc, Bool, ◌≡◌, ◌<◌, ◌⊎◌, List, []}
use Rattle.std.proofs.Common.{◌∷◌, length, map, get_or, slice_index, Vec, Global, sym, ◌∙◌, ap}
use Rattle.std.proofs.Common.{subst, inl, inr, arith, rules}
use Rattle.std.specs.List.{Contains}
use Rattle.std.proofs.lemmas.List.{get_or-map, length-map}
use Rattle.std.proofs.lemmas.List.Elements.{All-contains, All-from_get_or, Contains-get_or}
use Rattle.ysymbols.specs.Grammar.{Production, RuleValue}
use Rattle.ysymbols.specs.Marking.{WorklistValue, IsMarked, IsClosed, Grows, Takes, AreListed}
use Rattle.ysymbols.specs.Marking.{items_of, list_at, rule_at}
use Rattle.ysymbols.proofs.MarkingSteps.{closed_grows, closed_taken}

pub marked_below : (m : List Bool) (s : ℕ) → IsMarked m s → s < length m
marked_below [] s h = absurd (search rules)
marked_below (b ∷ m) zero h = omega arith
marked_below (b ∷ m) (suc s) h = let i = marked_below m s h in omega arith

pub of_listed : (xs : List ℕ) (q : ℕ) (P : ℕ → Type 0) →
    ((k : ℕ) → k < length xs → P (slice_index xs k)) → Contains xs q → P q
of_listed xs q P f c = All-contains P xs q (All-from_get_or P xs 0 f) c

-- the list that stands at s
pub list_read : (vs : List (Vec ℕ Global)) (s : ℕ) (v : Vec ℕ Global) (listed : List ℕ) →
    s < length vs → v ≡ get_or vs s v → listed ≡ v.items → listed ≡ list_at (map items_of vs) s
list_read vs s v listed h e f = f ∙ ap items_of e ∙ sym (get_or-map items_of vs s v [] h)

module _ {from : Production → List ℕ} (rules : List RuleValue) (n symbols s : ℕ)
    (lists : List (List ℕ)) (listed : List ℕ) (e : listed ≡ list_at lists s)
    (a : AreListed from rules n symbols lists) where
  pub listed_within : (k : ℕ) → k < length listed →
      (slice_index listed k < n) × Contains (from (rule_at rules (slice_index listed k))) s
  listed_within k h = a.within s (slice_index listed k)
      (subst (λ (x : List ℕ). Contains x (slice_index listed k)) e (Contains-get_or listed k 0 h))

  taken_closed : {v u : WorklistValue} (to : Production → List ℕ) (q : ℕ) → q < n → Grows v u
      → ((k : ℕ) → k < length listed → IsClosed (from (rule_at rules (slice_index listed k)))
      (to (rule_at rules (slice_index listed k))) u)
      → IsClosed (from (rule_at rules q)) (to (rule_at rules q)) v
      ⊎ ((j : ℕ) × (j < length (from (rule_at rules q)))
      × (slice_index (from (rule_at rules q)) j ≡ s))
      → IsClosed (from (rule_at rules q)) (to (rule_at rules q)) u
  taken_closed {v = v} {u = u} to q h g f (inl c) =
      closed_grows {w = v} {v = u} (from (rule_at rules q)) (to (rule_at rules q)) g c
  taken_closed {u = u} to q h g f (inr (j, l, i)) =
      of_listed listed q
      (λ (p : ℕ). IsClosed (from (rule_at rules p)) (to (rule_at rules p)) u) f
      (subst (λ (x : List ℕ). Contains x q) (sym e)
      (subst (λ (t : ℕ). Contains (list_at lists t) q) i (a.each q j h l)))

  -- one symbol was taken, and the rules listed for it were closed
  pub drain_next : {w v u : WorklistValue} (to : Production → List ℕ) → Takes w s v → Grows v u
      → ((k : ℕ) → k < length listed → IsClosed (from (rule_at rules (slice_index listed k)))
      (to (rule_at rules (slice_index listed k))) u)
      → ((q : ℕ) → q < n → IsClosed (from (rule_at rules q)) (to (rule_at rules q)) w)
      → (q : ℕ) → q < n → IsClosed (from (rule_at rules q)) (to (rule_at rules q)) u
  drain_next {w = w} {v = v} {u = u} to t g f old q h = taken_closed {v = v} {u = u} to q h
      g f (closed_taken {w = w} {v = v} (from (rule_at rules q)) (to (rule_at rules q)) s t
      (old q h))

-- the list of one element has no other
pub contains_alone : {x y : ℕ} → Contains (x ∷ []) y → x ≡ y
contains_alone (zero, h, e) = e
contains_alone (suc k, h, e) = absurd (omega arith)

-- the symbol that is taken has a list
pub taken_in : {w v : WorklistValue} (s n : ℕ) (vs : List (Vec ℕ Global)) → Takes w s v
    → length w.marks ≡ n → length (map items_of vs) ≡ n → s < length vs
taken_in {w = w} s n vs t z a =
    let b : s < length w.marks = marked_below w.marks s t.marked in
    omega (arith, length-map vs items_of)
