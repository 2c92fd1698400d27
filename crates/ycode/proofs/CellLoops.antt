-- The cells of one more state.
use Rattle.std.proofs.Common.{ℕ, ◌≡◌, ◌+◌, ◌*◌, ◌/◌, ◌<◌, ◌≤◌, ◌⊎◌, inl, inr, Bool, true, false}
use Rattle.std.proofs.Common.{List, [], ◌∷◌, ◌++◌, length, map, get_or, refl, sym, ap, ◌∙◌, subst}
use Rattle.std.proofs.Common.{arith, Option, Some, None, is_some, slice_index, length-append}
use Rattle.std.proofs.Common.{replicate, if◌then◌else◌}
use Rattle.std.proofs.lemmas.Bool.{cases_order}
use Rattle.std.proofs.Math.Seq.{get_or-append_seam}
use Rattle.std.proofs.lemmas.List.{get_or_append_left, get_or-replicate, get_or_past}
use Rattle.std.specs.List.{fold, range_with_len}
use Rattle.std.proofs.lemmas.List.FromFn.{length-map-range_with_len, get_or-map-range_with_len}
use Rattle.std.proofs.lemmas.List.Sums.{fold_push}
use Rattle.ylalr.specs.Collection.{goto_in}
use Rattle.ytables.specs.Cell.{is_reduce}
use Rattle.ytables.specs.Tables.{TablesValue}
use Rattle.ycode.specs.declared.entry.Entry.{Entry}
use Rattle.ycode.specs.declared.policy.Policy.{Policy}
use Rattle.ycode.specs.Bits.{SetsValue, HasSet, KeepsSets, AreListed, bit_of, bytes_for}
use Rattle.ycode.specs.Bits.{with_set, number_of}
use Rattle.ycode.specs.Cells.{wanted_at, IsUsual, IsSetOf, AreCells}
use Rattle.ycode.specs.Cells.{AreSets, sets_to, with_set_in, first_set, set_number, members_in}
use Rattle.ycode.specs.Cells.{set_in, span_of, usual_rule}
use Rattle.ycode.specs.Combs.{AreAtMost}
use Rattle.ycode.specs.Entries.{entry_at, entries_for, EntriesAtMost}
use Rattle.ycode.specs.Policies.{act_at, always_at, rule_for}
use Rattle.ycode.specs.States.{states_of, tokens_of, rules_of}
use Rattle.ycode.specs.Targets.{AreTargets, beside, goto_entries}
use Rattle.ycode.proofs.ListSteps.{range_more}
use Rattle.ycode.proofs.EntrySteps.{same_yes, same_no, below_or_last}
use Rattle.ycode.proofs.BitSteps.{kept_set}
use Rattle.ycode.proofs.PolicySteps.{always_acts, always_rule}

-- one more element: those before, and the last
pub before : {X : Type 0} (xs : List X) (x d : X) (n i : ℕ) → length xs ≡ n → i < n →
    get_or (xs ++ x ∷ []) i d ≡ get_or xs i d
before xs x d n i e l = get_or_append_left xs (x ∷ []) d i (omega (arith, e, l))

pub last : {X : Type 0} (xs : List X) (x d : X) (n i : ℕ) → length xs ≡ n → i ≡ n →
    get_or (xs ++ x ∷ []) i d ≡ x
last xs x d n i e h = ap (λ k. get_or (xs ++ x ∷ []) k d) (h ∙ sym e) ∙ get_or-append_seam xs x [] d

pub longer : {X : Type 0} (xs : List X) (x : X) (n : ℕ) → length xs ≡ n →
    length (xs ++ x ∷ []) ≡ n + 1
longer xs x n e = length-append xs (x ∷ []) ∙ ap (λ k. k + 1) e

-- a rule where there is one
some_rule : (o : Option ℕ) → is_some o ≡ true → (r : ℕ) × (o ≡ Some r)
some_rule None e = absurd (cc)
some_rule (Some r) e = (r, refl)

-- the set of a state that always reduces by its rule
pub set_zero : (p : Policy) (v : TablesValue) (q r : ℕ) (sets : SetsValue) → AreSets p v q sets →
    IsUsual p v q r → is_some (always_at p v q) ≡ true → IsSetOf p v q r sets 0
set_zero p v q r sets a u h = record {
  number = a.all.number;
  members = λ t l. all t (omega (arith, l)) ∙ sym
      (ap (is_reduce r) (always_acts p v q t found.0 found.1 l) ∙
      same_yes r found.0 (u.default found.0 rule));
  zero = sym h;
  none = all (tokens_of v) (omega arith) ∙ sym (ap is_some rule);
}
  where
    found : (s : ℕ) × (always_at p v q ≡ Some s)
    found = some_rule (always_at p v q) h

    rule : rule_for p v q ≡ Some found.0
    rule = always_rule p v q found.0 found.1

    all : (t : ℕ) → t < tokens_of v + 1 → bit_of sets.bytes (0 * sets.span) t ≡ true
    all t l = a.all.bits t (let w = a.span in omega (arith, w, l)) ∙
        get_or-replicate (tokens_of v + 1) t true false l

-- the set of another
pub set_other : (p : Policy) (v : TablesValue) (q r n : ℕ) (old sets : SetsValue) →
    AreSets p v q old → KeepsSets old sets → is_some (always_at p v q) ≡ false → 0 < n →
    HasSet sets n (members_in p v q) → IsUsual p v q r → IsSetOf p v q r sets n
set_other p v q r n old sets a k e o h u = record {
  number = h.number;
  members = λ t l. h.bits t (low t (omega (arith, l))) ∙
      (before (map member (range_with_len 0 (tokens_of v))) (is_some (rule_for p v q)) false
      (tokens_of v) t len l ∙
      (get_or-map-range_with_len member 0 (tokens_of v) t t false l (omega arith) ∙
      ap (λ (x : ℕ). is_reduce x (act_at p v q t)) (sym u.is)));
  zero = same_no n 0 (λ z. omega (arith, z, o)) ∙ sym e;
  none = h.bits (tokens_of v) (low (tokens_of v) (omega arith)) ∙
      last (map member (range_with_len 0 (tokens_of v))) (is_some (rule_for p v q)) false
      (tokens_of v) (tokens_of v) len refl;
}
  where
    member : ℕ → Bool
    member t = is_reduce (usual_rule p v q) (act_at p v q t)

    len : length (map member (range_with_len 0 (tokens_of v))) ≡ tokens_of v
    len = length-map-range_with_len member 0 (tokens_of v)

    low : (t : ℕ) → t < tokens_of v + 1 → t < 8 * sets.span
    low t l = let w = a.span in let x = k.span in omega (arith, w, x, l)

-- one more number that is at most m
pub at_most_push : (m : ℕ) (xs : List ℕ) (n : ℕ) → AreAtMost m xs → n ≤ m →
    AreAtMost m (xs ++ n ∷ [])
at_most_push m xs n a l i = go (cases_order i (length xs))
  where
    go : (i ≡ length xs) ⊎ ((i < length xs) ⊎ (length xs < i)) → slice_index (xs ++ n ∷ []) i ≤ m
    go (inl e) = let h = last xs n 0 (length xs) i refl e in omega (arith, h, l)
    go (inr (inl k)) = let h = before xs n 0 (length xs) i refl k in let z = a i in
        omega (arith, h, z)
    go (inr (inr k)) = let h = get_or_past (xs ++ n ∷ []) i 0
        (let y = longer xs n (length xs) refl in omega (arith, y, k)) in omega (arith, h)

-- the sets with that of a state that always reduces by its rule, and its number
pub always_same : (p : Policy) (v : TablesValue) (q : ℕ) (s : SetsValue) →
    is_some (always_at p v q) ≡ true → s ≡ with_set_in p v s q
always_same p v q s e = sym (ap (λ (b : Bool). if b then s else with_set s (set_in p v q)) e)

pub always_zero : (p : Policy) (v : TablesValue) (q : ℕ) (s : SetsValue) →
    is_some (always_at p v q) ≡ true → 0 ≡ set_number p v s q
always_zero p v q s e = sym (ap (λ (b : Bool). if b then 0 else number_of s (set_in p v q)) e)

-- the bytes of the set of another, and the sets with it
module _ (p : Policy) (v : TablesValue) (q : ℕ) (s : SetsValue) (members : List Bool)
    (a : AreSets p v q s) (are : members ≡ members_in p v q)
    (e : is_some (always_at p v q) ≡ false) where
  set_is : bytes_for s.span members ≡ set_in p v q
  set_is = ap (λ (k : ℕ). bytes_for k members) a.span ∙ ap (bytes_for (span_of v)) are

  pub other_same : (t : SetsValue) → t ≡ with_set s (bytes_for s.span members) →
      t ≡ with_set_in p v s q
  other_same t h = h ∙ (ap (with_set s) set_is ∙
      sym (ap (λ (b : Bool). if b then s else with_set s (set_in p v q)) e))

  pub other_number : (t : SetsValue) (n : ℕ) → n ≡ number_of t (bytes_for s.span members) →
      n ≡ set_number p v t q
  other_number t n h = h ∙ (ap (number_of t) set_is ∙
      sym (ap (λ (b : Bool). if b then 0 else number_of t (set_in p v q)) e))

-- set 0 alone
pub sets_none : (p : Policy) (v : TablesValue) (s : SetsValue) (n : ℕ) → n ≡ tokens_of v + 1 → s.count ≡ 1 →
    s.span ≡ (n + 7) / 8 → s.bytes ≡ bytes_for ((n + 7) / 8) (replicate n true) → s.others ≡ [] →
    HasSet s 0 (replicate n true) → AreSets p v 0 s
sets_none p v s n e c w b o h = record {
  span = span;
  all = subst (λ (k : ℕ). HasSet s 0 (replicate k true)) e h;
  few = omega (arith, c);
  listed = record {
    count = let z = ap length o in omega (arith, c, z);
    bits = λ k t l. absurd (let z = ap length o in omega (arith, z, l));
  };
  are = λ i. record { span = span i; count = c i; bytes = bytes i; others = o i };
}
  where
    span : s.span ≡ span_of v
    span = w ∙ ap (λ (k : ℕ). (k + 7) / 8) e

    bytes : s.bytes ≡ bytes_for (span_of v) (replicate (tokens_of v + 1) true)
    bytes = b ∙ ap (λ (k : ℕ). bytes_for ((k + 7) / 8) (replicate k true)) e

sets_to_more : (p : Policy) (v : TablesValue) (q : ℕ) → sets_to p v (q + 1) ≡ with_set_in p v (sets_to p v q) q
sets_to_more p v q = ap (fold (with_set_in p v) (first_set v)) (range_more q) ∙
    fold_push (with_set_in p v) (first_set v) (range_with_len 0 q) q

-- the sets with one more
pub sets_more : (p : Policy) (v : TablesValue) (q : ℕ) (s t : SetsValue) → AreSets p v q s → KeepsSets s t →
    AreListed t → t ≡ with_set_in p v s q → AreSets p v (q + 1) t
sets_more p v q s t a k l e = record {
  span = k.span ∙ a.span;
  all = kept_set s t 0 (replicate (tokens_of v + 1) true) k a.all;
  few = let x = a.few in let y = k.longer in omega (arith, x, y);
  listed = l;
  are = e ∙ (ap (λ (x : SetsValue). with_set_in p v x q) a.are ∙ sym (sets_to_more p v q));
}

kept_set_of : (p : Policy) (v : TablesValue) (q n r m : ℕ) (s t : SetsValue) → AreSets p v n s → KeepsSets s t →
    IsSetOf p v q r s m → IsSetOf p v q r t m
kept_set_of p v q n r m s t a k h = record {
  number = let x = h.number in let y = k.count in omega (arith, x, y);
  members = λ i l. (let z : i < 8 * s.span = (let e = a.span in omega (arith, e, l)) in
      k.bits m i h.number z ∙ h.members i l);
  zero = h.zero;
  none = (let z : tokens_of v < 8 * s.span = (let e = a.span in omega (arith, e)) in
      k.bits m (tokens_of v) h.number z ∙ h.none);
}

-- the cells with those of one more state
pub cells_more : (p : Policy) (v : TablesValue) (n : ℕ) (usual sets : List ℕ) (s t : SetsValue)
    (rows : List (List Entry)) (r m : ℕ) (es : List Entry) → AreCells p v n usual sets s rows →
    AreSets p v n s → KeepsSets s t → IsUsual p v n r → IsSetOf p v n r t m →
    ((i : ℕ) → i < tokens_of v → entry_at es i ≡ wanted_at p v r n i) →
    entry_at es (tokens_of v) ≡ None → EntriesAtMost (states_of v + rules_of v) es →
    m ≡ set_number p v (sets_to p v (n + 1)) n → es ≡ entries_for (wanted_at p v r n) (tokens_of v) →
    AreCells p v (n + 1) (usual ++ r ∷ []) (sets ++ m ∷ []) t (rows ++ es ∷ [])
cells_more p v n usual sets s t rows r m es c a k u so en nothing mo nu li = record {
  counts = (longer usual r n c.counts.0, longer sets m n c.counts.1, longer rows es n c.counts.2);
  rules = λ q l. rules q (below_or_last q n l);
  members = λ q l. members q (below_or_last q n l);
  entries = λ q i l h. entries q i h (below_or_last q n l);
  none = λ q l. none q (below_or_last q n l);
  most = λ q l. most q (below_or_last q n l);
  numbers = λ q l. numbers q (below_or_last q n l);
  lists = λ q l. lists q (below_or_last q n l);
}
  where
    numbers : (q : ℕ) → (q < n) ⊎ (q ≡ n) →
        slice_index (sets ++ m ∷ []) q ≡ set_number p v (sets_to p v (q + 1)) q
    numbers q (inl l) = before sets m 0 n q c.counts.1 l ∙ c.numbers q l
    numbers q (inr e) = last sets m 0 n q c.counts.1 e ∙ (nu ∙
        ap (λ (x : ℕ). set_number p v (sets_to p v (x + 1)) x) (sym e))

    lists : (q : ℕ) → (q < n) ⊎ (q ≡ n) → get_or (rows ++ es ∷ []) q [] ≡
        entries_for (wanted_at p v (slice_index (usual ++ r ∷ []) q) q) (tokens_of v)
    lists q (inl l) = before rows es [] n q c.counts.2 l ∙ (c.lists q l ∙
        ap (λ (x : ℕ). entries_for (wanted_at p v x q) (tokens_of v))
        (sym (before usual r 0 n q c.counts.0 l)))
    lists q (inr e) = last rows es [] n q c.counts.2 e ∙ (li ∙
        (ap (λ (x : ℕ). entries_for (wanted_at p v r x) (tokens_of v)) (sym e) ∙
        ap (λ (x : ℕ). entries_for (wanted_at p v x q) (tokens_of v))
        (sym (last usual r 0 n q c.counts.0 e))))

    none : (q : ℕ) → (q < n) ⊎ (q ≡ n) → entry_at (get_or (rows ++ es ∷ []) q []) (tokens_of v) ≡
        None
    none q (inl l) = ap (λ x. entry_at x (tokens_of v)) (before rows es [] n q c.counts.2 l) ∙
        c.none q l
    none q (inr e) = ap (λ x. entry_at x (tokens_of v)) (last rows es [] n q c.counts.2 e) ∙ nothing

    rules : (q : ℕ) → (q < n) ⊎ (q ≡ n) → IsUsual p v q (slice_index (usual ++ r ∷ []) q)
    rules q (inl l) = subst (IsUsual p v q) (sym (before usual r 0 n q c.counts.0 l)) (c.rules q l)
    rules q (inr e) = subst (IsUsual p v q) (sym (last usual r 0 n q c.counts.0 e))
        (subst (λ x. IsUsual p v x r) (sym e) u)

    members : (q : ℕ) → (q < n) ⊎ (q ≡ n) → IsSetOf p v q (slice_index (usual ++ r ∷ []) q) t
        (slice_index (sets ++ m ∷ []) q)
    members q (inl l) =
        subst (λ x. IsSetOf p v q x t (slice_index (sets ++ m ∷ []) q))
        (sym (before usual r 0 n q c.counts.0 l))
        (subst (IsSetOf p v q (slice_index usual q) t) (sym (before sets m 0 n q c.counts.1 l))
        (kept_set_of p v q n (slice_index usual q) (slice_index sets q) s t a k (c.members q l)))
    members q (inr e) =
        subst (λ x. IsSetOf p v q x t (slice_index (sets ++ m ∷ []) q))
        (sym (last usual r 0 n q c.counts.0 e))
        (subst (IsSetOf p v q r t) (sym (last sets m 0 n q c.counts.1 e))
        (subst (λ x. IsSetOf p v x r t m) (sym e) so))

    entries : (q i : ℕ) → i < tokens_of v → (q < n) ⊎ (q ≡ n) →
        entry_at (get_or (rows ++ es ∷ []) q []) i ≡
        wanted_at p v (slice_index (usual ++ r ∷ []) q) q i
    entries q i h (inl l) =
        ap (λ x. entry_at x i) (before rows es [] n q c.counts.2 l) ∙ (c.entries q i l h ∙
        ap (λ x. wanted_at p v x q i) (sym (before usual r 0 n q c.counts.0 l)))
    entries q i h (inr e) =
        ap (λ x. entry_at x i) (last rows es [] n q c.counts.2 e) ∙ (en i h ∙
        (ap (λ x. wanted_at p v r x i) (sym e) ∙
        ap (λ x. wanted_at p v x q i) (sym (last usual r 0 n q c.counts.0 e))))

    most : (q : ℕ) → (q < n) ⊎ (q ≡ n) →
        EntriesAtMost (states_of v + rules_of v) (get_or (rows ++ es ∷ []) q [])
    most q (inl l) = subst (EntriesAtMost (states_of v + rules_of v))
        (sym (before rows es [] n q c.counts.2 l)) (c.most q l)
    most q (inr e) = subst (EntriesAtMost (states_of v + rules_of v))
        (sym (last rows es [] n q c.counts.2 e)) mo

-- the gotos with those over one more nonterminal
pub targets_more : (v : TablesValue) (n : ℕ) (usual : List ℕ) (rows : List (List Entry))
    (es : List Entry) → AreTargets v n usual rows →
    ((q : ℕ) → q < states_of v →
    entry_at es q ≡ beside (slice_index usual n) (goto_in v.built q (tokens_of v + n))) →
    EntriesAtMost (states_of v) es → es ≡ goto_entries v (slice_index usual n) n →
    AreTargets v (n + 1) usual (rows ++ es ∷ [])
targets_more v n usual rows es c en mo li = record {
  count = c.count;
  made = longer rows es n c.made;
  below = c.below;
  entries = λ q x h l. entries q x h (below_or_last x n l);
  most = λ x l. most x (below_or_last x n l);
  lists = λ x l. lists x (below_or_last x n l);
  targets = c.targets;
}
  where
    lists : (x : ℕ) → (x < n) ⊎ (x ≡ n) →
        get_or (rows ++ es ∷ []) x [] ≡ goto_entries v (slice_index usual x) x
    lists x (inl l) = before rows es [] n x c.made l ∙ c.lists x l
    lists x (inr e) = last rows es [] n x c.made e ∙ (li ∙
        ap (λ (y : ℕ). goto_entries v (slice_index usual y) y) (sym e))

    entries : (q x : ℕ) → q < states_of v → (x < n) ⊎ (x ≡ n) →
        entry_at (get_or (rows ++ es ∷ []) x []) q ≡
        beside (slice_index usual x) (goto_in v.built q (tokens_of v + x))
    entries q x h (inl l) = ap (λ y. entry_at y q) (before rows es [] n x c.made l) ∙
        c.entries q x h l
    entries q x h (inr e) = ap (λ y. entry_at y q) (last rows es [] n x c.made e) ∙ (en q h ∙
        ap (λ (y : ℕ). beside (slice_index usual y) (goto_in v.built q (tokens_of v + y))) (sym e))

    most : (x : ℕ) → (x < n) ⊎ (x ≡ n) → EntriesAtMost (states_of v)
        (get_or (rows ++ es ∷ []) x [])
    most x (inl l) = subst (EntriesAtMost (states_of v)) (sym (before rows es [] n x c.made l))
        (c.most x l)
    most x (inr e) = subst (EntriesAtMost (states_of v)) (sym (last rows es [] n x c.made e)) mo
