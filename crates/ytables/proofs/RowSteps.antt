-- The steps of one state's row: rules that look at a token, complete items, the rule that all
-- actions share.
use Rattle.std.proofs.Common.{ℕ, zero, suc, ◌≡◌, ◌≢◌, ◌+◌, ◌-◌, ◌<◌, ◌≤◌, Bool, true, false, not}
use Rattle.std.proofs.Common.{◌&&◌, ◌||◌, nat_eq, List, [], ◌∷◌, ◌++◌, length, map, take, drop}
use Rattle.std.proofs.Common.{get_or, refl, sym, ap, ◌∙◌, subst, inl, inr, ◌⊎◌, arith, append-nil}
use Rattle.std.proofs.Common.{append_assoc}
use Rattle.std.proofs.Common.{length-drop, Option, Some, None, MatchOption, if◌then◌else◌}
use Rattle.std.specs.List.{All, AllPairs, filter, flat_map, list_all, list_any, range_with_len}
use Rattle.std.proofs.lemmas.Bool.Decides.{eqb_tells}
use Rattle.std.proofs.lemmas.List.{map-append}
use Rattle.std.proofs.lemmas.List.Elements.{All-append, All-filter, filter_more, filter_passes}
use Rattle.std.proofs.lemmas.List.Kept.{AllPairs-filter}
use Rattle.std.proofs.lemmas.List.FromFn.{fill_by_all}
use Rattle.std.proofs.Math.Seq.{drop-cons}
use Rattle.ysymbols.specs.Grammar.{ContextFree, body_of}
use Rattle.ylalr.specs.declared.items.Item.{Item}
use Rattle.ylalr.specs.Sets.{Before, IsAscending, InRange}
use Rattle.ylalr.specs.Collection.{Collection, Guide, state_of}
use Rattle.ytables.specs.declared.class.Class.{Class}
use Rattle.ytables.specs.declared.class.Class.TheVariants.{Beat, Lose, Ban, Rest}
use Rattle.ytables.specs.declared.cell.Action.{Action}
use Rattle.ytables.specs.declared.cell.Action.TheVariants.{Shift, Reduce, Accept, Error}
use Rattle.ytables.specs.declared.cell.Cell.{Cell}
use Rattle.ytables.specs.declared.cell.Conflict.{Conflict}
use Rattle.ytables.specs.declared.cell.Tally.{Tally}
use Rattle.ytables.specs.Cell.{common, is_filled, is_reduce}
use Rattle.ytables.specs.Report.{conflict_line, conflict_text, conflicts_text}
use Rattle.ytables.specs.Tables.{conflict_at, conflicts_to, conflicts_in}
use Rattle.ytables.specs.Rows.{IsRowTo, IsRow, ReduceBy}
use Rattle.ytables.specs.Tables.{after_dot, is_empty, is_ready, ready_in, rules_by, has_before}
use Rattle.ytables.specs.Tables.{tokens_of, cell_in, TablesValue}
use Rattle.ytables.specs.Tally.{IsTally, tally_more}
use Rattle.ylink.proofs.Ranges.{range_more}
use Rattle.ytables.proofs.RangeSteps.{map_more, sum_more, any_more}
use Rattle.ytables.proofs.TallySteps.{tally_push}

module _ (class : ℕ → Class) (test : Item → Bool) (xs : List Item) (n : ℕ) (d : Item) (y : Tally)
    (h : n < length xs) (t : IsTally class (rules_by test (take n xs)) y) where
  -- an item that does not pass
  pub tally_skip : test (get_or xs n d) ≡ false → IsTally class (rules_by test (take (n + 1) xs)) y
  tally_skip e =
      let same : filter test (take (n + 1) xs) ≡ filter test (take n xs) =
      filter_more test xs n d h ∙ ap
      (λ b. filter test (take n xs) ++ (if b then get_or xs n d ∷ [] else [])) e ∙ append-nil
      (filter test (take n xs)) in
      subst (λ (l : List Item). IsTally class (map (λ (i : Item). i.rule) l) y) (sym same) t

  -- an item that does
  pub tally_take : test (get_or xs n d) ≡ true → IsTally class (rules_by test (take (n + 1) xs))
      (tally_more y (get_or xs n d).rule (class (get_or xs n d).rule))
  tally_take e =
      let more : filter test (take (n + 1) xs) ≡ filter test (take n xs) ++ get_or xs n d ∷ [] =
      filter_more test xs n d h ∙ ap
      (λ b. filter test (take n xs) ++ (if b then get_or xs n d ∷ [] else [])) e in
      let rules : rules_by test (take (n + 1) xs) ≡ rules_by test (take n xs) ++
      (get_or xs n d).rule ∷ [] =
      ap (map (λ (i : Item). i.rule)) more ∙ map-append (λ (i : Item). i.rule)
      (filter test (take n xs)) (get_or xs n d ∷ []) in
      subst (λ rs. IsTally class rs (tally_more y (get_or xs n d).rule
      (class (get_or xs n d).rule))) (sym rules) (tally_push class (rules_by test (take n xs)) y
      (get_or xs n d).rule t)

-- no class changes what is kept by more than its count, and none is above the number of rules
pub tally_room : (y : Tally) (r n : ℕ) (k : Class) → y.rests ≤ y.all → y.kept ≤ y.all → y.all ≤ n →
    ((tally_more y r k).rests ≤ (tally_more y r k).all) ×
    ((tally_more y r k).kept ≤ (tally_more y r k).all) × ((tally_more y r k).all ≤ n + 1)
tally_room y r n Beat a b c = (omega arith, omega arith, omega arith)
tally_room y r n Lose a b c = (omega arith, omega arith, omega arith)
tally_room y r n Ban a b c = (omega arith, omega arith, omega arith)
tally_room y r n Rest a b c = (omega arith, omega arith, omega arith)

-- one more cell of a row
pub row_more : (m : Collection) (u : Guide) (q n : ℕ) (row : List Action) (shifts reduces : ℕ)
    (chosen : Bool) (c : Cell) → IsRowTo m u q n row shifts reduces chosen → c ≡ cell_in m u q n →
    IsRowTo m u q (n + 1) (row ++ c.action ∷ []) (shifts + c.shift_reduce)
    (reduces + c.reduce_reduce) (chosen || c.choice)
row_more m u q n row shifts reduces chosen c r e = record {
  actions = ap (λ l. l ++ c.action ∷ []) r.actions ∙ ap
      (λ (x : Cell). map (λ t. (cell_in m u q t).action) (range_with_len 0 n) ++ x.action ∷ []) e ∙
      sym (map_more n (λ t. (cell_in m u q t).action));
  shift_reduce = (let a = r.shift_reduce in let b = ap (λ (x : Cell). x.shift_reduce) e in
      let s = sum_more n (λ t. (cell_in m u q t).shift_reduce) in cc);
  reduce_reduce = (let a = r.reduce_reduce in let b = ap (λ (x : Cell). x.reduce_reduce) e in
      let s = sum_more n (λ t. (cell_in m u q t).reduce_reduce) in cc);
  choice = (let a = r.choice in let b = ap (λ (x : Cell). x.choice) e in
      let s = any_more n (λ t. (cell_in m u q t).choice) in cc);
}

-- one test after another
filter_both : {X : Type 0} (r p : X → Bool) (xs : List X) → filter (λ x. r x && p x) xs ≡ filter p
    (filter r xs)
filter_both r p [] = refl
filter_both {X} r p (x ∷ xs) = go (r x) (filter_both r p xs)
  where
    go : (b : Bool) → filter (λ x. r x && p x) xs ≡ filter p (filter r xs) →
        (if b && p x then x ∷ filter (λ x. r x && p x) xs else filter (λ x. r x && p x) xs) ≡ filter
        p (if b then x ∷ filter r xs else filter r xs)
    go true e = ap (λ l. if p x then x ∷ l else l) e
    go false e = e

-- the rules of the complete items that pass, from a list that has the same complete items
pub rules_ready : (g : ContextFree) (test : Item → Bool) (items k : List Item) →
    ready_in g items ≡ ready_in g k → rules_by (λ i. is_ready g i && test i) items ≡ rules_by test
    (ready_in g k)
rules_ready g test items k e = ap (map (λ (i : Item). i.rule))
    (filter_both (is_ready g) test items ∙ ap (filter test) e)

-- a list whose rules rise is no longer than there are rules
rising : (xs : List Item) (low n : ℕ) → All (λ (i : Item). (low ≤ i.rule) × (i.rule < n)) xs →
    AllPairs (λ (i j : Item). i.rule < j.rule) xs → length xs ≤ n - low
rising [] low n a p = omega arith
rising (x ∷ xs) low n a p =
    let z : Item = record { rule = 0; dot = 0 } in
    let l : low ≤ x.rule = (a 0 z (omega arith)).0 in
    let h : x.rule < n = (a 0 z (omega arith)).1 in
    let r : length xs ≤ n - suc x.rule = rising xs (suc x.rule) n (λ k d b. (
      let s : x.rule < (get_or xs k d).rule = p 0 (suc k) d (omega arith)
          (omega (arith, b)) in omega (arith, s),
      (a (suc k) d (omega (arith, b))).1,
    ))
    (λ i j d b e. p (suc i) (suc j) d (omega (arith, b)) (omega (arith, e))) in
    omega (arith, l, h, r)

pub complete_dot : (g : ContextFree) (i : Item) → is_ready g i ≡ true →
    length (body_of g i.rule) ≤ i.dot
complete_dot g i h = go (not (nat_eq i.rule 0)) (after_dot g i) h refl
  where
    go : (b : Bool) (l : List ℕ) → (b && is_empty l) ≡ true → after_dot g i ≡ l →
        length (body_of g i.rule) ≤ i.dot
    go true [] h e = let n = ap length e in omega (arith, n, length-drop i.dot (body_of g i.rule))
    go true (x ∷ l) h e = cc
    go false l h e = cc

-- the complete items of a state are of different rules
pub few_ready : (g : ContextFree) (k : List Item) → InRange g k → IsAscending k →
    length (ready_in g k) ≤ length g.rules
few_ready g k h a =
    let found = ready_in g k in
    let range = All-filter (is_ready g) (λ (i : Item). (i.rule < length g.rules) ×
    (i.dot ≤ length (body_of g i.rule))) k h in
    let order = AllPairs-filter Before (is_ready g) k a in
    let passes = filter_passes (is_ready g) k in
    let apart : AllPairs (λ (i j : Item). i.rule < j.rule) found =
    λ i j d b e. go (get_or found i d) (get_or found j d) (passes i d (omega (arith, b, e)))
    (range j d e).1 (order i j d b e) in
    let z = rising found 0 (length g.rules) (λ n d l. (omega arith, (range n d l).0)) apart in
    omega (arith, z)
  where
    go : (i j : Item) → is_ready g i ≡ true → j.dot ≤ length (body_of g j.rule) → Before i j →
        i.rule < j.rule
    go i j p r (inl l) = l
    go i j p r (inr l) =
        let full = complete_dot g i p in
        let same : length (body_of g i.rule) ≡ length (body_of g j.rule) =
        ap (λ n. length (body_of g n)) l.0 in
        let dots = l.1 in
        absurd (omega (arith, full, same, dots, r))

-- the list around an element that passes
filter_split : {X : Type 0} (p : X → Bool) (xs : List X) (i : ℕ) (d : X) → i < length xs →
    p (get_or xs i d) ≡ true → filter p xs ≡ filter p (take i xs) ++
    (get_or xs i d ∷ filter p (drop (suc i) xs))
filter_split p [] i d l h = absurd (omega arith)
filter_split p (x ∷ xs) zero d l h = ap (λ b. if b then x ∷ filter p xs else filter p xs) h
filter_split {X} p (x ∷ xs) (suc i) d l h = ap (λ l. if p x then x ∷ l else l)
    (filter_split p xs i d (omega arith) h) ∙ go (p x)
  where
    go : (b : Bool) → (if b then x ∷
        (filter p (take i xs) ++ (get_or xs i d ∷ filter p (drop (suc i) xs))) else filter p
        (take i xs) ++ (get_or xs i d ∷ filter p (drop (suc i) xs)))
        ≡ (if b then x ∷ filter p (take i xs) else filter p (take i xs)) ++
        (get_or xs i d ∷ filter p (drop (suc i) xs))
    go true = refl
    go false = refl

all_stops : (r : ℕ) (front back : List Action) (a : Action) → is_reduce r a ≡ false →
    list_all (is_reduce r) (front ++ (a ∷ back)) ≡ false
all_stops r [] back a h = ap (λ b. b && list_all (is_reduce r) back) h
all_stops r (x ∷ front) back a h = ap (λ b. is_reduce r x && b) (all_stops r front back a h) ∙ go
    (is_reduce r x)
  where
    go : (b : Bool) → (b && false) ≡ false
    go true = refl
    go false = refl

-- the action is no reduction by the rule of those before
abbrev pub Breaks : Option ℕ → Action → Type 0
Breaks found a = MatchOption found ((r : ℕ) → a ≡ Reduce r → ⊥) (λ r. is_reduce r a ≡ false)

common_breaks : (found : Option ℕ) (front back : List Action) (a : Action) → MatchOption found
    (front ≡ []) (λ r. ReduceBy r front) → Breaks found a → common (front ++ (a ∷ back)) ≡ None
common_breaks None front back a e h = subst (λ (l : List Action). common (l ++ (a ∷ back)) ≡ None)
    (sym e) (go a h)
  where
    go : (a : Action) → ((r : ℕ) → a ≡ Reduce r → ⊥) → common (a ∷ back) ≡ None
    go (Shift n) h = refl
    go (Reduce r) h = absurd (h r refl)
    go Accept h = refl
    go Error h = refl
common_breaks (Some r) front back a e h =
    subst (λ (l : List Action). common (l ++ (a ∷ back)) ≡ None) (sym e.first)
    (ap (λ b. if b then Some r else None) (all_stops r e.rest back a h))

filled : (a : Action) → (a ≡ Error → ⊥) → is_filled a ≡ true
filled (Shift n) h = refl
filled (Reduce r) h = refl
filled Accept h = refl
filled Error h = absurd (h refl)

-- a filled cell that breaks with those before it leaves no common rule
pub no_common : (found : Option ℕ) (xs : List Action) (i : ℕ) (d : Action) → i < length xs →
    MatchOption found (filter is_filled (take i xs) ≡ [])
    (λ r. ReduceBy r (filter is_filled (take i xs))) → (get_or xs i d ≡ Error → ⊥) →
    Breaks found (get_or xs i d) → None ≡ common (filter is_filled xs)
no_common found xs i d l e h b =
    sym (ap common (filter_split is_filled xs i d l (filled (get_or xs i d) h)) ∙ common_breaks
    found (filter is_filled (take i xs)) (filter is_filled (drop (suc i) xs)) (get_or xs i d) e
    b)

-- no reduction breaks with everything
pub breaks_all : (found : Option ℕ) (a : Action) → ((r : ℕ) → a ≡ Reduce r → ⊥) → Breaks found a
breaks_all None a h = h
breaks_all (Some r) (Shift n) h = refl
breaks_all (Some r) (Reduce s) h = absurd (h s refl)
breaks_all (Some r) Accept h = refl
breaks_all (Some r) Error h = refl

-- a reduction by another rule
pub breaks_other : (found : Option ℕ) (a : Action) (r s : ℕ) → found ≡ Some s → a ≡ Reduce r →
    (r ≡ s → ⊥) → Breaks found a
breaks_other found a r s e h n = subst (λ o. Breaks o a) (sym e)
    (subst (λ (x : Action). is_reduce s x ≡ false) (sym h) (go (eqb_tells s r)))
  where
    go : ((nat_eq s r ≡ true) × (s ≡ r)) ⊎ ((nat_eq s r ≡ false) × (s ≢ r)) → nat_eq s r ≡ false
    go (inl p) = absurd (n (sym p.1))
    go (inr p) = p.0

any_mapped : {X : Type 0} (f : X → Bool) (xs : List X) → list_any (λ b. b) (map f xs) ≡ list_any f
    xs
any_mapped f [] = refl
any_mapped f (x ∷ xs) = ap (λ b. f x || b) (any_mapped f xs)

-- the row of a state from its cells, and its default rule from these
pub whole_row : (m : Collection) (u : Guide) (q : ℕ) (before : List Bool) (row : List Action)
    (rule : Option ℕ) (shifts reduces : ℕ) (chosen : Bool) → length before ≡ m.grammar.bare.tokens
    → ((t : ℕ) → t < m.grammar.bare.tokens → get_or before t false ≡ has_before m.grammar.bare
    (state_of m q) t) → IsRowTo m u q (length before) row shifts reduces chosen
    → rule ≡ (if list_any (λ b. b) before then None else common (filter is_filled row)) →
    IsRow m u q row rule shifts reduces chosen
whole_row m u q before row rule shifts reduces chosen len marks cells e =
    let f = has_before m.grammar.bare (state_of m q) in
    let whole : IsRowTo m u q m.grammar.bare.tokens row shifts reduces chosen =
    subst (λ n. IsRowTo m u q n row shifts reduces chosen) len cells in
    let all : list_any (λ b. b) before ≡ list_any f (tokens_of m.grammar) =
    ap (list_any (λ b. b)) (fill_by_all f before m.grammar.bare.tokens false len marks) ∙ any_mapped
    f (tokens_of m.grammar) in
    record {
      cells = whole;
      default = e ∙ ap (λ b. if b then None else common (filter is_filled row)) all
          ∙ ap (λ (l : List Action). if list_any f (tokens_of m.grammar) then None else common
          (filter is_filled l)) whole.actions;
    }

-- what stands after a dot in the body, and at its end
pub empty_no : (l : List ℕ) (n : ℕ) → n < length l → is_empty (drop n l) ≡ false
empty_no l n h = ap is_empty (drop-cons l n 0 h)

pub empty_yes : (l : List ℕ) (n : ℕ) → length l ≤ n → is_empty (drop n l) ≡ true
empty_yes l n h = go (drop n l) (let e = length-drop n l in omega (arith, e, h))
  where
    go : (k : List ℕ) → length k ≡ 0 → is_empty k ≡ true
    go [] e = refl
    go (x ∷ k) e = absurd (omega (arith, e))

flat_map-both : {X Y : Type 0} (f : X → List Y) (xs ys : List X) →
    flat_map f (xs ++ ys) ≡ flat_map f xs ++ flat_map f ys
flat_map-both f [] ys = refl
flat_map-both f (x ∷ xs) ys = ap (λ l. f x ++ l) (flat_map-both f xs ys) ∙ sym
    (append_assoc (f x) (flat_map f xs) (flat_map f ys))

-- one more cell, and what it counts
pub conflicts_more : (m : Collection) (u : Guide) (q n : ℕ) (c : Cell) → c ≡ cell_in m u q n →
    conflicts_to m u q n ++ conflict_at n c ≡ conflicts_to m u q (n + 1)
conflicts_more m u q n c e =
    let f = λ (t : ℕ). conflict_at t (cell_in m u q t) in
    ap (λ (x : Cell). conflicts_to m u q n ++ conflict_at n x) e ∙ sym
    (ap (flat_map f) (range_more 0 n n (omega arith)) ∙ flat_map-both f (range_with_len 0 n)
    (n ∷ []) ∙ ap (λ l. conflicts_to m u q n ++ l) (append-nil (f n)))

-- the lines of the conflicts are those of the cells
pub conflicts_said : (v : TablesValue) (u : Guide) (q : ℕ) →
    flat_map (conflict_text v.built.grammar) (conflicts_in v.built u q) ≡ conflicts_text v u q
conflicts_said v u q = go (tokens_of v.built.grammar)
  where
    one : (t : ℕ) (c : Cell) → flat_map (conflict_text v.built.grammar) (conflict_at t c) ≡
        conflict_line v.built.grammar t c
    one t c = case (nat_eq c.shift_reduce 0 && nat_eq c.reduce_reduce 0)
      where
        k : Conflict
        k = record { token = t; shift_reduce = c.shift_reduce; reduce_reduce = c.reduce_reduce }

        case : (b : Bool) →
            flat_map (conflict_text v.built.grammar) (if b then [] else k ∷ []) ≡
            (if b then [] else conflict_text v.built.grammar k)
        case true = refl
        case false = append-nil (conflict_text v.built.grammar k)

    go : (ts : List ℕ) → flat_map (conflict_text v.built.grammar)
        (flat_map (λ t. conflict_at t (cell_in v.built u q t)) ts) ≡
        flat_map (λ t. conflict_line v.built.grammar t (cell_in v.built u q t)) ts
    go [] = refl
    go (t ∷ ts) = flat_map-both (conflict_text v.built.grammar)
        (conflict_at t (cell_in v.built u q t))
        (flat_map (λ t. conflict_at t (cell_in v.built u q t)) ts) ∙ ap
        (λ l. l ++ flat_map (conflict_text v.built.grammar)
        (flat_map (λ t. conflict_at t (cell_in v.built u q t)) ts))
        (one t (cell_in v.built u q t)) ∙ ap
        (λ l. conflict_line v.built.grammar t (cell_in v.built u q t) ++ l) (go ts)

-- each conflict is at a token
pub conflicts_at_tokens : (m : Collection) (u : Guide) (q n : ℕ) →
    All (λ (k : Conflict). k.token < n) (conflicts_to m u q n)
conflicts_at_tokens m u q n = go 0 n (omega arith)
  where
    f : ℕ → List Conflict
    f t = conflict_at t (cell_in m u q t)

    one : (t : ℕ) (c : Cell) → t < n → All (λ (k : Conflict). k.token < n) (conflict_at t c)
    one t c h = case (nat_eq c.shift_reduce 0 && nat_eq c.reduce_reduce 0)
      where
        none : All (λ (k : Conflict). k.token < n) []
        none i d l = absurd (omega arith)

        alone : (k : Conflict) → k.token < n → All (λ (k : Conflict). k.token < n) (k ∷ [])
        alone k b zero d l = b
        alone k b (suc i) d l = absurd (omega arith)

        case : (b : Bool) → All (λ (k : Conflict). k.token < n) (if b then [] else record {
          token = t;
          shift_reduce = c.shift_reduce;
          reduce_reduce = c.reduce_reduce;
        } ∷ [])
        case true = none
        case false = alone _ h

    no_more : All (λ (k : Conflict). k.token < n) []
    no_more i d l = absurd (omega arith)

    go : (a r : ℕ) → a + r ≤ n → All (λ (k : Conflict). k.token < n)
        (flat_map f (range_with_len a r))
    go a zero h = no_more
    go a (suc r) h = All-append (λ (k : Conflict). k.token < n) (f a)
        (flat_map f (range_with_len (a + 1) r)) (one a (cell_in m u q a) (omega arith))
        (go (a + 1) r (omega arith))

-- what stands in a list doesn't depend on the default that is read beside it
pub same_at : {X : Type 0} (xs : List X) (i : ℕ) (d e : X) → i < length xs →
    get_or xs i d ≡ get_or xs i e
same_at [] i d e h = absurd (omega arith)
same_at (x ∷ xs) zero d e h = refl
same_at (x ∷ xs) (suc i) d e h = same_at xs i d e (omega arith)
