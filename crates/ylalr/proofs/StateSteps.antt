-- The list of states with one more.
use Rattle.std.proofs.Common.{ℕ, zero, suc, ◌≡◌, ◌<◌, ◌≤◌, ◌+◌, ◌⊎◌, List, [], ◌∷◌, ◌++◌, length}
use Rattle.std.proofs.Common.{get_or, refl, sym, ◌∙◌, ap, subst, inl, inr, arith}
use Rattle.std.specs.List.{Contains}
use Rattle.ysymbols.specs.Grammar.{ContextFree}
use Rattle.ysymbols.specs.WellFormed.{WellFormed}
use Rattle.ylalr.specs.declared.items.Item.{Item}
use Rattle.ybitsets.specs.Limits.{most_states}
use Rattle.ylalr.specs.Sets.{IsClosure, IsAscending, InRange}
use Rattle.ylalr.specs.States.{StateLists, set_at, start_item, IsState, AreStates, Extends, MayJoin}
use Rattle.ylalr.specs.States.{with_state, IsFresh, Overflows}
use Rattle.ylalr.proofs.Cores.{core_start}
use Rattle.ysymbols.proofs.Numbers.{below_or_last}

pub push_old : {X : Type 0} (xs : List X) (x d : X) (k : ℕ) → k < length xs →
    get_or (xs ++ x ∷ []) k d ≡ get_or xs k d
push_old [] x d k h = absurd (omega arith)
push_old (y ∷ xs) x d zero h = refl
push_old (y ∷ xs) x d (suc k) h = push_old xs x d k (omega arith)

pub push_new : {X : Type 0} (xs : List X) (x d : X) (k : ℕ) → k ≡ length xs →
    get_or (xs ++ x ∷ []) k d ≡ x
push_new [] x d zero e = refl
push_new [] x d (suc k) e = absurd (omega arith)
push_new (y ∷ xs) x d zero e = absurd (omega arith)
push_new (y ∷ xs) x d (suc k) e = push_new xs x d k (omega arith)

pub push_length : {X : Type 0} (xs : List X) (x : X) → length (xs ++ x ∷ []) ≡ length xs + 1
push_length [] x = omega arith
push_length (y ∷ xs) x = let z = push_length xs x in omega arith

pub extends_then : (s t u : StateLists) → Extends s t → Extends t u → Extends s u
extends_then s t u a b = record {
  longer = (let x = a.longer in let y = b.longer in omega arith);
  kernels = λ q h. b.kernels q (let x = a.longer in omega arith) ∙ a.kernels q h;
  closures = λ q h. b.closures q (let x = a.longer in omega arith) ∙ a.closures q h;
}

pub states_push : (g : ContextFree) (s : StateLists) (k w : List Item) → AreStates g s →
    MayJoin g k → IsFresh s k → IsClosure g k w → IsAscending w → InRange g w →
    AreStates g (with_state s k w)
states_push g s k w are may fresh shut asc range = record {
  same = push_length s.kernels k ∙ ap (λ n. n + 1) are.same ∙ sym (push_length s.closures w);
  some = (let z = push_length s.closures w in omega arith);
  first = push_old s.kernels k [] 0 (let a = are.same in let b = are.some in omega arith) ∙
      are.first;
  each = λ q h. each q (place q h);
  moved = λ q l h. moved q l (place q h);
  distinct = λ q n a b e. distinct q n (place q a) (place n b) e;
}
  where
    place : (q : ℕ) → q < length (s.closures ++ w ∷ []) → (q < length s.closures) ⊎
        (q ≡ length s.closures)
    place q h = below_or_last q (length s.closures) (subst (λ t. q < t) (push_length s.closures w) h)

    kernel_old : (q : ℕ) → q < length s.closures → set_at (s.kernels ++ k ∷ []) q ≡ set_at s.kernels
        q
    kernel_old q h = push_old s.kernels k [] q (let e = are.same in omega arith)

    kernel_new : (q : ℕ) → q ≡ length s.closures → set_at (s.kernels ++ k ∷ []) q ≡ k
    kernel_new q e = push_new s.kernels k [] q (e ∙ sym are.same)

    each : (q : ℕ) → (q < length s.closures) ⊎ (q ≡ length s.closures) →
        IsState g (set_at (s.kernels ++ k ∷ []) q) (set_at (s.closures ++ w ∷ []) q)
    each q (inl h) = subst (λ x. IsState g x (set_at (s.closures ++ w ∷ []) q))
        (sym (kernel_old q h)) (subst (λ y. IsState g (set_at s.kernels q) y)
        (sym (push_old s.closures w [] q h)) (are.each q h))
    each q (inr e) = subst (λ x. IsState g x (set_at (s.closures ++ w ∷ []) q))
        (sym (kernel_new q e)) (subst (λ y. IsState g k y) (sym (push_new s.closures w [] q e))
        (record {
          closure = shut;
          kernel_order = may.order;
          order = asc;
          kernel_range = may.range;
          range = range;
          filled = may.filled;
          core = (may.core.0, may.core.1 w shut);
        }))

    moved : (q : ℕ) → 0 < q → (q < length s.closures) ⊎ (q ≡ length s.closures) →
        (i : Item) → Contains (set_at (s.kernels ++ k ∷ []) q) i → 0 < i.dot
    moved q l (inl h) i c = are.moved q l h i (subst (λ x. Contains x i) (kernel_old q h) c)
    moved q l (inr e) i c = may.moved i (subst (λ x. Contains x i) (kernel_new q e) c)

    distinct : (q n : ℕ) → (q < length s.closures) ⊎ (q ≡ length s.closures) →
        (n < length s.closures) ⊎ (n ≡ length s.closures) → set_at (s.kernels ++ k ∷ []) q ≡ set_at
        (s.kernels ++ k ∷ []) n → q ≡ n
    distinct q n (inl a) (inl b) e = are.distinct q n a b
        (sym (kernel_old q a) ∙ e ∙ kernel_old n b)
    distinct q n (inl a) (inr b) e = absurd (fresh q (let z = are.same in omega arith)
        (sym (kernel_old q a) ∙ e ∙ kernel_new n b))
    distinct q n (inr a) (inl b) e = absurd (fresh n (let z = are.same in omega arith)
        (sym (kernel_old n b) ∙ sym e ∙ kernel_new q a))
    distinct q n (inr a) (inr b) e = a ∙ sym b

one_ascending : (i : Item) → IsAscending (i ∷ [])
one_ascending i n m d h l = absurd (omega arith)

one_range : (g : ContextFree) → WellFormed g → InRange g (start_item ∷ [])
one_range g f zero d h = (f.some, omega arith)
one_range g f (suc k) d h = absurd (omega arith)

pub states_one : (g : ContextFree) → WellFormed g → (w : List Item) → IsClosure g (start_item ∷ [])
    w → IsAscending w → InRange g w →
    AreStates g (record { kernels = (start_item ∷ []) ∷ []; closures = w ∷ [] })
states_one g f w shut asc range = record {
  same = refl;
  some = omega arith;
  first = refl;
  each = each;
  moved = λ q l h. absurd (omega arith);
  distinct = λ q n a b e. omega arith;
}
  where
    each : (q : ℕ) → q < 1 → IsState g (set_at ((start_item ∷ []) ∷ []) q) (set_at (w ∷ []) q)
    each zero h = record {
      closure = shut;
      kernel_order = one_ascending start_item;
      order = asc;
      kernel_range = one_range g f;
      range = range;
      filled = omega arith;
      core = ([], core_start g f w shut);
    }
    each (suc q) h = absurd (omega arith)

pub overflows : (g : ContextFree) (s : StateLists) (k w : List Item) → AreStates g s → MayJoin g k →
    IsFresh s k → IsClosure g k w → IsAscending w → InRange g w → most_states ≤ length s.closures →
    Overflows g
overflows g s k w are may fresh shut asc range h = (
  with_state s k w,
  states_push g s k w are may fresh shut asc range,
  (let z = push_length s.closures w in omega arith),
)

nil_of : {X : Type 0} (xs : List X) → length xs ≡ 0 → xs ≡ []
nil_of [] e = refl
nil_of (x ∷ xs) e = absurd (omega arith)

-- the first state, added to none
pub states_first : (g : ContextFree) → WellFormed g → (s : StateLists) (w : List Item) →
    length s.kernels ≡ 0 → length s.closures ≡ 0 → IsClosure g (start_item ∷ []) w → IsAscending w →
    InRange g w → AreStates g (with_state s (start_item ∷ []) w)
states_first g f s w a b shut asc range =
    let e : with_state s (start_item ∷ []) w ≡ record {
      kernels = (start_item ∷ []) ∷ [];
      closures =
          w ∷ [];
    } = (λ i. record {
      kernels = nil_of s.kernels a i ++ (start_item ∷ []) ∷ [];
      closures = nil_of s.closures b i ++ w ∷ [];
    }) in
    subst (AreStates g) (sym e) (states_one g f w shut asc range)
