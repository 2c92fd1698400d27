-- What the pass over the rules of a cell finds, rule by rule, and that its cell is the one of the
-- definition.
use Rattle.std.proofs.Common.{ℕ, suc, ◌≡◌, ◌+◌, ◌-◌, Bool, true, false, not, ◌||◌, nat_eq, nat_lt}
use Rattle.std.proofs.Common.{min, List, [], ◌∷◌, ◌++◌, length, refl, sym, ap, ◌∙◌, arith, Some}
use Rattle.std.proofs.Common.{None, if◌then◌else◌, length-append}
use Rattle.std.proofs.Math.Dec.{eqb-suc-zero}
use Rattle.std.proofs.lemmas.List.Sums.{fold-append}
use Rattle.std.specs.List.{filter, list_any, count_by, fold}
use Rattle.ytables.specs.declared.class.Class.{Class}
use Rattle.ytables.specs.declared.class.Class.TheVariants.{Beat, Lose, Ban, Rest}
use Rattle.ytables.specs.declared.cell.Action.{Action}
use Rattle.ytables.specs.declared.cell.Action.TheVariants.{Reduce, Error}
use Rattle.ytables.specs.declared.cell.Cell.{Cell}
use Rattle.ytables.specs.declared.cell.Tally.{Tally}
use Rattle.ytables.specs.Cell.{lone, reduce, cell_of, is_beat, is_lose, is_ban, is_rest}
use Rattle.ytables.specs.Tally.{IsTally, tally_more, lesser, least_of, kept_of}
use Rattle.ytables.specs.Tally.{reduce_of, settle}

or_true : (b : Bool) → (b || true) ≡ true
or_true true = refl
or_true false = refl

any_no : (p : ℕ → Bool) (rs : List ℕ) (r : ℕ) → p r ≡ false → list_any p (rs ++ r ∷ []) ≡ list_any p
    rs
any_no p [] r h = ap (λ b. b || false) h
any_no p (x ∷ rs) r h = ap (λ b. p x || b) (any_no p rs r h)

any_yes : (p : ℕ → Bool) (rs : List ℕ) (r : ℕ) → p r ≡ true → list_any p (rs ++ r ∷ []) ≡ true
any_yes p [] r h = ap (λ b. b || false) h
any_yes p (x ∷ rs) r h = ap (λ b. p x || b) (any_yes p rs r h) ∙ or_true (p x)

filter_no : (p : ℕ → Bool) (rs : List ℕ) (r : ℕ) → p r ≡ false → filter p (rs ++ r ∷ []) ≡ filter p
    rs
filter_no p [] r h = ap (λ b. if b then r ∷ [] else []) h
filter_no p (x ∷ rs) r h = ap (λ l. if p x then x ∷ l else l) (filter_no p rs r h)

filter_yes : (p : ℕ → Bool) (rs : List ℕ) (r : ℕ) → p r ≡ true → filter p (rs ++ r ∷ []) ≡ filter p
    rs ++ r ∷ []
filter_yes p [] r h = ap (λ b. if b then r ∷ [] else []) h
filter_yes p (x ∷ rs) r h = ap (λ l. if p x then x ∷ l else l) (filter_yes p rs r h) ∙ go (p x)
  where
    go : (b : Bool) → (if b then x ∷ (filter p rs ++ r ∷ []) else filter p rs ++ r ∷ []) ≡
        (if b then x ∷ filter p rs else filter p rs) ++ r ∷ []
    go true = refl
    go false = refl

count_with : (p : ℕ → Bool) (rs : List ℕ) (r : ℕ) (b : Bool) → p r ≡ b →
    count_by p (rs ++ r ∷ []) ≡ count_by p rs + (if b then 1 else 0)
count_with p rs r b h = fold-append (λ a x. a + (if p x then 1 else 0)) 0 rs (r ∷ []) ∙ ap
    (λ c. count_by p rs + (if c then 1 else 0)) h

count_no : (p : ℕ → Bool) (rs : List ℕ) (r : ℕ) → p r ≡ false → count_by p (rs ++ r ∷ []) ≡ count_by
    p rs
count_no p rs r h = let e = count_with p rs r false h in omega (arith, e)

least_push : (xs : List ℕ) (r : ℕ) → least_of (xs ++ r ∷ []) ≡
    (if nat_eq (length xs) 0 then r else min (least_of xs) r)
least_push [] r = refl
least_push (x ∷ xs) r = fold-append min x xs (r ∷ []) ∙ sym
    (ap (λ b. if b then r else min (fold min x xs) r) (eqb-suc-zero (length xs)))

length_push : (xs : List ℕ) (r : ℕ) → length (xs ++ r ∷ []) ≡ length xs + 1
length_push xs r = length-append xs (r ∷ [])

module _ (class : ℕ → Class) where
  -- the least rule, where one more is kept
  first_more : (rs : List ℕ) (y : Tally) (r : ℕ) → IsTally class rs y →
      not (is_lose (class r)) ≡ true → lesser y r ≡ least_of (kept_of class (rs ++ r ∷ []))
  first_more rs y r t h =
      let kept = kept_of class rs in
      let by_kept : lesser y r ≡ (if nat_eq (length kept) 0 then r else min y.first r) =
      ap (λ n. if nat_eq n 0 then r else min y.first r) t.kept in
      let by_first : (if nat_eq (length kept) 0 then r else min y.first r) ≡
      (if nat_eq (length kept) 0 then r else min (least_of kept) r) =
      ap (λ f. if nat_eq (length kept) 0 then r else min f r) t.first in
      by_kept ∙ by_first ∙ sym (least_push kept r) ∙ ap least_of
      (sym (filter_yes (λ s. not (is_lose (class s))) rs r h))

  kept_more : (rs : List ℕ) (y : Tally) (r : ℕ) → IsTally class rs y →
      not (is_lose (class r)) ≡ true → y.kept + 1 ≡ length (kept_of class (rs ++ r ∷ []))
  kept_more rs y r t h =
      ap (λ n. n + 1) t.kept ∙ sym (length_push (kept_of class rs) r) ∙ ap length
      (sym (filter_yes (λ s. not (is_lose (class s))) rs r h))

  all_more : (rs : List ℕ) (y : Tally) (r : ℕ) → IsTally class rs y → y.all + 1 ≡ length
      (rs ++ r ∷ [])
  all_more rs y r t = ap (λ n. n + 1) t.all ∙ sym (length_push rs r)

  -- one more rule that doesn't lose
  kept_push : (rs : List ℕ) (y : Tally) (r : ℕ) {ban beat : Bool} {rests : ℕ} →
      IsTally class rs y → not (is_lose (class r)) ≡ true →
      ban ≡ list_any (λ s. is_ban (class s)) (rs ++ r ∷ []) →
      beat ≡ list_any (λ s. is_beat (class s)) (rs ++ r ∷ []) →
      rests ≡ count_by (λ s. is_rest (class s)) (rs ++ r ∷ []) →
      IsTally class (rs ++ r ∷ []) (record {
        banned = ban;
        beaten = beat;
        rests = rests;
        kept = y.kept + 1;
        first = lesser y r;
        all = y.all + 1;
      })
  kept_push rs y r t h ban beat rests = record {
    banned = ban;
    beaten = beat;
    rests = rests;
    kept = kept_more rs y r t h;
    first = first_more rs y r t h;
    all = all_more rs y r t;
  }

  -- one more rule
  pub tally_push : (rs : List ℕ) (y : Tally) (r : ℕ) → IsTally class rs y →
      IsTally class (rs ++ r ∷ []) (tally_more y r (class r))
  tally_push rs y r t = go (class r) refl
    where
      go : (k : Class) → class r ≡ k → IsTally class (rs ++ r ∷ []) (tally_more y r k)
      go Beat e = kept_push rs y r t (ap (λ k. not (is_lose k)) e)
          (t.banned ∙ sym (any_no (λ s. is_ban (class s)) rs r (ap is_ban e)))
          (sym (any_yes (λ s. is_beat (class s)) rs r (ap is_beat e)))
          (t.rests ∙ sym (count_no (λ s. is_rest (class s)) rs r (ap is_rest e)))
      go Lose e = record {
        banned = t.banned ∙ sym (any_no (λ s. is_ban (class s)) rs r (ap is_ban e));
        beaten = t.beaten ∙ sym (any_no (λ s. is_beat (class s)) rs r (ap is_beat e));
        rests = t.rests ∙ sym (count_no (λ s. is_rest (class s)) rs r (ap is_rest e));
        kept = t.kept ∙ ap length
            (sym (filter_no (λ s. not (is_lose (class s))) rs r (ap (λ k. not (is_lose k)) e)));
        first = t.first ∙ ap least_of
            (sym (filter_no (λ s. not (is_lose (class s))) rs r (ap (λ k. not (is_lose k)) e)));
        all = all_more rs y r t;
      }
      go Ban e = kept_push rs y r t (ap (λ k. not (is_lose k)) e)
          (sym (any_yes (λ s. is_ban (class s)) rs r (ap is_ban e)))
          (t.beaten ∙ sym (any_no (λ s. is_beat (class s)) rs r (ap is_beat e)))
          (t.rests ∙ sym (count_no (λ s. is_rest (class s)) rs r (ap is_rest e)))
      go Rest e = kept_push rs y r t (ap (λ k. not (is_lose k)) e)
          (t.banned ∙ sym (any_no (λ s. is_ban (class s)) rs r (ap is_ban e)))
          (t.beaten ∙ sym (any_no (λ s. is_beat (class s)) rs r (ap is_beat e)))
          (ap (λ n. n + 1) t.rests ∙ sym (count_with (λ s. is_rest (class s)) rs r true
          (ap is_rest e)))

-- the reduction by the least of these rules
reduced_is : (xs : List ℕ) (y : Tally) (choice : Bool) → y.kept ≡ length xs →
    y.first ≡ least_of xs → reduce_of y choice ≡ reduce choice xs
reduced_is [] y choice k f = ap (λ n. if nat_eq n 0 then lone Error choice else record {
  action = Reduce y.first;
  shift_reduce = 0;
  reduce_reduce = n - 1;
  choice = choice;
}) k
reduced_is (x ∷ xs) y choice k f =
    let at : ℕ → ℕ → Bool → Cell = λ n s b. if b then lone Error choice else record {
      action = Reduce s;
      shift_reduce = 0;
      reduce_reduce = n - 1;
      choice = choice;
    } in
    let less : suc (length xs) - 1 ≡ length xs = omega arith in
    ap (λ n. at n y.first (nat_eq n 0)) k ∙ ap (at (suc (length xs)) y.first)
    (eqb-suc-zero (length xs)) ∙ ap (λ s. at (suc (length xs)) s false) f
    ∙ ap (λ n. record {
      action = Reduce (fold min x xs);
      shift_reduce = 0;
      reduce_reduce = n;
      choice = choice;
    }) less

filter_all : (xs : List ℕ) → filter (λ r. true) xs ≡ xs
filter_all [] = refl
filter_all (x ∷ xs) = ap (λ l. x ∷ l) (filter_all xs)

-- the cell where there is no shift: no class is asked
pub settled_none : (class : ℕ → Class) (rules : List ℕ) (y : Tally) → IsTally (λ r. Rest) rules y →
    settle y None ≡ cell_of class None rules
settled_none class rules y t =
    ap (λ n. reduce_of y (nat_lt 1 n)) t.all ∙ reduced_is rules y (nat_lt 1 (length rules))
    (t.kept ∙ ap length (filter_all rules)) (t.first ∙ ap least_of (filter_all rules))

-- the cell where there is one
pub settled_some : (class : ℕ → Class) (rules : List ℕ) (y : Tally) (shift : Action) →
    IsTally class rules y → settle y (Some shift) ≡ cell_of class (Some shift) rules
settled_some class rules y shift t =
    let at : Bool → Bool → Cell → ℕ → ℕ → Cell = λ b c x n m. if b then lone Error true else
    (if c then x else record {
      action = shift;
      shift_reduce = n;
      reduce_reduce = 0;
      choice = nat_lt 0 m;
    }) in
    ap (λ b. at b y.beaten (reduce_of y true) y.rests y.all) t.banned ∙ ap
    (λ c. at (list_any (λ r. is_ban (class r)) rules) c (reduce_of y true) y.rests y.all)
    t.beaten
    ∙ ap (λ x. at (list_any (λ r. is_ban (class r)) rules) (list_any (λ r. is_beat (class r)) rules)
    x y.rests y.all) (reduced_is (kept_of class rules) y true t.kept t.first)
    ∙ ap (λ n. at (list_any (λ r. is_ban (class r)) rules) (list_any (λ r. is_beat (class r)) rules)
    (reduce true (kept_of class rules)) n y.all) t.rests
    ∙ ap (λ m. at (list_any (λ r. is_ban (class r)) rules) (list_any (λ r. is_beat (class r)) rules)
    (reduce true (kept_of class rules)) (count_by (λ r. is_rest (class r)) rules) m) t.all
