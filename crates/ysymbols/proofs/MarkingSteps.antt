-- Steps of the worklists that mark symbols.
use Rattle.std.proofs.Common.{ℕ, zero, suc, Bool, true, false, ◌≡◌, ◌≢◌, ◌<◌, ◌≤◌, ◌+◌, ◌⊎◌, List}
use Rattle.std.proofs.Common.{[], ◌∷◌, ◌++◌, length, get_or, slice_index, refl, sym, ◌∙◌, ap, subst}
use Rattle.std.proofs.Common.{inl, inr, arith, rules, get_or-set_other, get_or-set_same}
use Rattle.std.proofs.Common.{length-append}
use Rattle.std.proofs.Math.ListN.{set}
use Rattle.std.proofs.Math.ListN.{get_or-append, length-set}
use Rattle.std.proofs.Math.Seq.{get_or-append_seam}
use Rattle.ysymbols.specs.Marking.{WorklistValue, IsMarked, IsUnmarked, unmarked_count, IsWaiting}
use Rattle.ysymbols.specs.Marking.{IsWorklist, Keeps, Grows, Takes, IsClosed, stuck, ahead, marked}
use Rattle.ysymbols.proofs.Numbers.{below_or_last}
use Rattle.std.proofs.lemmas.Bool.{cases_eq}

bool_or : (b : Bool) → (b ≡ true) ⊎ (b ≡ false)
bool_or true = inl refl
bool_or false = inr refl

pub marked_or : (m : List Bool) (s : ℕ) → IsMarked m s ⊎ IsUnmarked m s
marked_or m s = bool_or (get_or m s false)

pub not_both : (b : Bool) → b ≡ true → b ≡ false → ⊥
not_both true h k = search rules
not_both false h k = search rules

unmarked_set : (m : List Bool) (s : ℕ) → s < length m → get_or m s false ≡ false →
    unmarked_count (set m s true) + 1 ≡ unmarked_count m
unmarked_set [] s l h = absurd (omega arith)
unmarked_set (false ∷ m) zero l h = omega arith
unmarked_set (true ∷ m) zero l h = absurd (not_both true refl h)
unmarked_set (b ∷ m) (suc s) l h = let i = unmarked_set m s (omega arith) h in omega arith

kept_by : (m : List Bool) (s t : ℕ) → s < length m → (t ≡ s) ⊎ (t ≢ s) → IsMarked m t →
    IsMarked (set m s true) t
kept_by m s t l (inl e) k = subst (λ (u : ℕ). IsMarked (set m s true) u) (sym e)
    (get_or-set_same m s true false l)
kept_by m s t l (inr n) k = get_or-set_other m s t true false n ∙ k

only_by : (m : List Bool) (s t : ℕ) → (t ≡ s) ⊎ (t ≢ s) → IsMarked (set m s true) t → IsMarked m t ⊎
    (t ≡ s)
only_by m s t (inl e) k = inr e
only_by m s t (inr n) k = inl (sym (get_or-set_other m s t true false n) ∙ k)

-- the worklist with one more symbol marked
abbrev pub with_mark : WorklistValue → ℕ → WorklistValue
with_mark w s = record {
  marks = set w.marks s true;
  order = w.order ++ s ∷ [];
  taken = w.taken;
}

waiting_more : (w : WorklistValue) (s t : ℕ) → IsWaiting w t → IsWaiting (with_mark w s) t
waiting_more w s t a = record {
  at = a.at;
  later = a.later;
  within = let l = a.within in omega (arith, length-append w.order (s ∷ []));
  there = get_or-append w.order (s ∷ []) 0 a.at a.within ∙ a.there;
}

waiting_new : (w : WorklistValue) (s : ℕ) → w.taken ≤ length w.order → IsWaiting (with_mark w s) s
waiting_new w s d = record {
  at = length w.order;
  later = d;
  within = omega (arith, length-append w.order (s ∷ []));
  there = get_or-append_seam w.order s [] 0;
}

waits_by : (w : WorklistValue) (s t : ℕ) → w.taken ≤ length w.order → IsMarked w.marks t ⊎ (t ≡ s)
    → IsMarked w.marks t ⊎ IsWaiting (with_mark w s) t
waits_by w s t d (inl k) = inl k
waits_by w s t d (inr e) = inr (subst (λ (u : ℕ). IsWaiting (with_mark w s) u) (sym e)
    (waiting_new w s d))

in_order : (w : WorklistValue) (s k : ℕ) → s < length w.marks → IsWorklist w
    → (k < length w.order) ⊎ (k ≡ length w.order)
    → IsMarked (set w.marks s true) (get_or (w.order ++ s ∷ []) k 0)
in_order w s k l i (inl h) = rw (get_or-append w.order (s ∷ []) 0 k h)
    (kept_by w.marks s (get_or w.order k 0) l (cases_eq (get_or w.order k 0) s) (i.marked k h))
in_order w s k l i (inr e) = subst (λ (u : ℕ). IsMarked (set w.marks s true) u)
    (sym (ap (λ (j : ℕ). get_or (w.order ++ s ∷ []) j 0) e ∙ get_or-append_seam w.order s [] 0))
    (get_or-set_same w.marks s true false l)

-- a symbol that was not marked waits
pub grows_new : (w : WorklistValue) (s : ℕ) → s < length w.marks → w.taken ≤ length w.order
    → Grows w (with_mark w s)
grows_new w s l d = record {
  keeps = record {
    sized = length-set w.marks s true;
    kept = λ t k. kept_by w.marks s t l (cases_eq t s) k;
  };
  taken = refl;
  ahead = λ t a. waiting_more w s t a;
  waits = λ t k. waits_by w s t d (only_by w.marks s t (cases_eq t s) k);
}

pub worklist_new : (w : WorklistValue) (s : ℕ) → s < length w.marks → IsUnmarked w.marks s
    → IsWorklist w → IsWorklist (with_mark w s)
worklist_new w s l h i = record {
  marked = λ k j. in_order w s k l i
      (below_or_last k (length w.order) (omega (arith, length-append w.order (s ∷ []))));
  few = let f = i.few in omega (
    arith,
    length-append w.order (s ∷ []),
    unmarked_set w.marks s l h,
    length-set w.marks s true,
  );
  within = let j = i.within in omega (arith, length-append w.order (s ∷ []));
}

unmarked_few : (m : List Bool) → unmarked_count m ≤ length m
unmarked_few [] = omega arith
unmarked_few (true ∷ m) = let i = unmarked_few m in omega arith
unmarked_few (false ∷ m) = let i = unmarked_few m in omega arith

-- nothing waits at first
pub worklist_none : (m : List Bool) → IsWorklist (record { marks = m; order = []; taken = 0 })
worklist_none m = record {
  marked = λ k h. absurd (omega arith);
  few = let i = unmarked_few m in omega arith;
  within = omega arith;
}

pub keeps_then : {m m2 m3 : List Bool} → Keeps m m2 → Keeps m2 m3 → Keeps m m3
keeps_then g h = record { sized = h.sized ∙ g.sized; kept = λ s k. h.kept s (g.kept s k) }

waits_on : {v u : WorklistValue} (m : List Bool) (s : ℕ) → Grows v u
    → IsMarked m s ⊎ IsWaiting v s → IsMarked m s ⊎ IsWaiting u s
waits_on m s h (inl i) = inl i
waits_on m s h (inr a) = inr (h.ahead s a)

waits_then : {w v u : WorklistValue} (s : ℕ) → Grows w v → Grows v u
    → IsMarked v.marks s ⊎ IsWaiting u s → IsMarked w.marks s ⊎ IsWaiting u s
waits_then s g h (inr a) = inr a
waits_then {w = w} {v = v} {u = u} s g h (inl k) =
    waits_on {v = v} {u = u} w.marks s h (g.waits s k)

pub grows_then : {w v u : WorklistValue} → Grows w v → Grows v u → Grows w u
grows_then {w = w} {v = v} {u = u} g h = record {
  keeps = keeps_then g.keeps h.keeps;
  taken = h.taken ∙ g.taken;
  ahead = λ s a. h.ahead s (g.ahead s a);
  waits = λ s k. waits_then {w = w} {v = v} {u = u} s g h (h.waits s k);
}

closed_some : (m : List Bool) {v : WorklistValue} (xs ys : List ℕ) (k : ℕ) → k < length xs
    → IsUnmarked m (slice_index xs k) → IsMarked m (slice_index xs k)
    ⊎ IsWaiting v (slice_index xs k) → IsClosed xs ys v
closed_some m xs ys k l n (inl i) = absurd (not_both (get_or m (slice_index xs k) false) i n)
closed_some m xs ys k l n (inr a) = ahead k l a

closed_stuck : {w v : WorklistValue} (xs ys : List ℕ) (k : ℕ) → Grows w v → k < length xs
    → IsUnmarked w.marks (slice_index xs k)
    → IsMarked v.marks (slice_index xs k) ⊎ IsUnmarked v.marks (slice_index xs k)
    → IsClosed xs ys v
closed_stuck {w = w} {v = v} xs ys k g l n (inl i) = closed_some w.marks {v = v} xs ys k l n
    (g.waits (slice_index xs k) i)
closed_stuck xs ys k g l n (inr u) = stuck k l u

-- what is closed stays so
pub closed_grows : {w v : WorklistValue} (xs ys : List ℕ) → Grows w v → IsClosed xs ys w
    → IsClosed xs ys v
closed_grows {w = w} {v = v} xs ys g (stuck k l n) = closed_stuck {w = w} {v = v} xs ys k g l n
    (marked_or v.marks (slice_index xs k))
closed_grows xs ys g (ahead k l a) = ahead k l (g.ahead (slice_index xs k) a)
closed_grows xs ys g (marked f) = marked (λ k l. g.keeps.kept (slice_index ys k) (f k l))

closed_ahead : {v : WorklistValue} (xs ys : List ℕ) (s k : ℕ) → k < length xs
    → (slice_index xs k ≡ s) ⊎ IsWaiting v (slice_index xs k)
    → IsClosed xs ys v ⊎ ((j : ℕ) × (j < length xs) × (slice_index xs j ≡ s))
closed_ahead xs ys s k l (inl e) = inr (k, l, e)
closed_ahead xs ys s k l (inr a) = inl (ahead k l a)

-- what is closed stays so, or the symbol that is taken is one of its premises
pub closed_taken : {w v : WorklistValue} (xs ys : List ℕ) (s : ℕ) → Takes w s v → IsClosed xs ys w
    → IsClosed xs ys v ⊎ ((j : ℕ) × (j < length xs) × (slice_index xs j ≡ s))
closed_taken xs ys s t (stuck k l n) =
    inl (stuck k l (subst (λ m. IsUnmarked m (slice_index xs k)) (sym t.marks) n))
closed_taken {w = w} {v = v} xs ys s t (ahead k l a) = closed_ahead {v = v} xs ys s k l
    (t.others (slice_index xs k) a)
closed_taken xs ys s t (marked f) =
    inl (marked (λ k l. subst (λ m. IsMarked m (slice_index ys k)) (sym t.marks) (f k l)))

-- where nothing waits, marked premises have marked conclusions
pub closed_end : (xs ys : List ℕ) (w : WorklistValue) → ((s : ℕ) → IsWaiting w s → ⊥)
    → IsClosed xs ys w → ((k : ℕ) → k < length xs → IsMarked w.marks (slice_index xs k))
    → (k : ℕ) → k < length ys → IsMarked w.marks (slice_index ys k)
closed_end xs ys w z (stuck k l u) e = absurd (not_both (get_or w.marks (slice_index xs k) false)
    (e k l) u)
closed_end xs ys w z (ahead k l a) e = absurd (z (slice_index xs k) a)
closed_end xs ys w z (marked f) e = f

-- what holds of an element holds of each of the list of it alone
pub alone : (P : ℕ → Type 0) (x : ℕ) → P x → (k : ℕ) → k < length (x ∷ []) →
    P (slice_index (x ∷ []) k)
alone P x p zero h = p
alone P x p (suc k) h = absurd (omega arith)
