-- A row that is put among others: it is there, and they stay.
use Rattle.std.proofs.Common.{ℕ, ◌≡◌, ◌≢◌, ◌+◌, ◌-◌, ◌*◌, ◌<◌, ◌≤◌, ◌⊎◌, inl, inr, Bool, true}
use Rattle.std.proofs.Common.{false}
use Rattle.std.proofs.Common.{nat_eq, List, [], ◌∷◌, ◌++◌, length, get_or, set, refl, sym, ap, ◌∙◌}
use Rattle.std.proofs.Common.{subst, arith, max, map, ◌||◌}
use Rattle.std.proofs.Common.{Option, Some, None, is_some, unwrap_or, slice_index, if◌then◌else◌}
use Rattle.std.specs.List.{range_with_len}
use Rattle.std.proofs.lemmas.Bool.{cases_eq, le-leb, lt-leb, eq-eqb, ne_eqb}
use Rattle.std.proofs.lemmas.List.{get_or_default}
use Rattle.std.proofs.lemmas.List.FromFn.{fill_by_all}
use Rattle.std.proofs.lemmas.List.{get_or-set_same, get_or-set_other, get_or_past}
use Rattle.std.proofs.lemmas.List.{get_or_append_left}
use Rattle.std.proofs.Math.Seq.{get_or-append_seam}
use Rattle.std.proofs.Math.ListN.{length-set}
use Rattle.ycode.specs.declared.entry.Entry.{Entry}
use Rattle.ycode.specs.Combs.{held_at, AreAtMost, HasRows}
use Rattle.ycode.specs.Entries.{entry_at}
use Rattle.ycode.specs.Packing.{PackingValue, Begins, IsPacking, HasRow, Keeps, RowAtMost, FitsAt}
use Rattle.ycode.specs.Packing.{HaveEntries, number_there, with_row}
use Rattle.ycode.specs.Packing.{IsGrown, IsWritten, HasEntries, IsPut, IsEntered}
use Rattle.ycode.proofs.EntrySteps.{same_yes, same_no, below_or_last}

pub held_here : (checks values : List ℕ) (i t : ℕ) → slice_index checks i ≡ t →
    held_at checks values i t ≡ Some (slice_index values i)
held_here checks values i t e = ap (λ b. if b then Some (slice_index values i) else None)
    (same_yes (slice_index checks i) t e)

pub held_other : (checks values : List ℕ) (i t : ℕ) → slice_index checks i ≢ t →
    held_at checks values i t ≡ None
held_other checks values i t n = ap (λ b. if b then Some (slice_index values i) else None)
    (same_no (slice_index checks i) t n)

pub held_same : (c v c' v' : List ℕ) (i t : ℕ) → slice_index c' i ≡ slice_index c i →
    slice_index v' i ≡ slice_index v i → held_at c' v' i t ≡ held_at c v i t
held_same c v c' v' i t e f =
    ap (λ n. if nat_eq n t then Some (slice_index v' i) else None) e
    ∙ ap (λ n. if nat_eq (slice_index c i) t then Some n else None) f

pub some_or_none : (o : Option ℕ) → (o ≡ None) ⊎ ((n : ℕ) × (o ≡ Some n))
some_or_none None = inl refl
some_or_none (Some n) = inr (n, refl)

pub less_or_not : (a b : ℕ) → (a < b) ⊎ (b ≤ a)
less_or_not a b = grind arith

-- where a row has a number, there is a column
pub in_row : (row : List (Option ℕ)) (t k : ℕ) → get_or row t None ≡ Some k → t < length row
in_row row t k e = go (less_or_not t (length row))
  where
    go : (t < length row) ⊎ (length row ≤ t) → t < length row
    go (inl l) = l
    go (inr l) = let f : None ≡ Some k = sym (get_or_past row t None l) ∙ e in absurd (cc)

-- rows stay packed where free cells are added
pub grown_packing : (w : ℕ) (c c' v v' : List ℕ) (b b' : List Bool) → IsPacking w c v b →
    IsGrown w c c' v v' b b' → IsPacking w c' v' b'
grown_packing w c c' v v' b b' p g = record {
  some = p.some;
  beside = g.beside;
  marked = g.marked;
  room = λ d h. (let r = p.room d (sym (g.begins d) ∙ h) in let l = g.longer in
      omega (arith, r, l));
  owned = λ d t l h e. owned d t l h e (less_or_not (d + t) (length c));
  small = λ i. small i (less_or_not i (length c)) (less_or_not i (length c'));
}
  where
    owned : (d t : ℕ) → d + t < length c' → t < w → slice_index c' (d + t) ≡ t →
        (d + t < length c) ⊎ (length c ≤ d + t) → Begins b' d
    owned d t l h e (inl n) = g.begins d ∙ p.owned d t n h (sym (g.cells (d + t) n) ∙ e)
    owned d t l h e (inr n) = let f = g.free (d + t) n l in absurd (omega (arith, f, e, h))

    small : (i : ℕ) → (i < length c) ⊎ (length c ≤ i) → (i < length c') ⊎ (length c' ≤ i) →
        slice_index c' i ≤ w
    small i (inl n) k = let e = g.cells i n in let s = p.small i in omega (arith, e, s)
    small i (inr n) (inl k) = let e = g.free i n k in omega (arith, e)
    small i (inr n) (inr k) = let e = get_or_past c' i 0 k in omega (arith, e)

module _ (w : ℕ) (c c1 c2 v v1 v2 : List ℕ) (b b1 b2 : List Bool) (d : ℕ) (row : List (Option ℕ))
    (p : IsPacking w c v b) (g : IsGrown w c c1 v v1 b b1) (room : d + w ≤ length c1)
    (len : length row ≡ w) (fit : FitsAt c row d) (fresh : get_or b d false ≡ false)
    (wr : IsWritten w d row c1 c2 v1 v2) (lc : length c2 ≡ length c1) (lv : length v2 ≡ length v1)
    (eb : b2 ≡ set b1 d true) where
  q : IsPacking w c1 v1 b1
  q = grown_packing w c c1 v v1 b b1 p g

  -- what a cell is afterwards: as it was, or that of a column of the row
  abbrev At : ℕ → Type 0
  At i = ((slice_index c2 i ≡ slice_index c1 i) × (slice_index v2 i ≡ slice_index v1 i)) ⊎
      ((s : ℕ) × (n : ℕ) × (i ≡ d + s) × (s < w) × (get_or row s None ≡ Some n) ×
      (slice_index c2 i ≡ s) × (slice_index v2 i ≡ n))

  inside : (s n : ℕ) → get_or row s None ≡ Some n → s < w
  inside s n e = go (less_or_not s w)
    where
      go : (s < w) ⊎ (w ≤ s) → s < w
      go (inl l) = l
      go (inr l) = let f : None ≡ Some n = sym (get_or_past row s None (omega (arith, len, l))) ∙ e
          in absurd (cc)

  at_column : (s : ℕ) → At (d + s)
  at_column s = go (some_or_none (get_or row s None))
    where
      go : (get_or row s None ≡ None) ⊎ ((n : ℕ) × (get_or row s None ≡ Some n)) → At (d + s)
      go (inl e) = inl (wr.none s e)
      go (inr e) = let h = wr.there s e.0 (inside s e.0 e.1) e.1 in
          inr (s, e.0, refl, inside s e.0 e.1, e.1, h.0, h.1)

  at : (i : ℕ) → At i
  at i = go (less_or_not i d)
    where
      go : (i < d) ⊎ (d ≤ i) → At i
      go (inl l) = inl (wr.before i l)
      go (inr l) = let e : d + (i - d) ≡ i = omega (arith, l) in subst At e (at_column (i - d))

  not_fresh : Begins b1 d → ⊥
  not_fresh h = let e : true ≡ false = sym h ∙ (g.begins d ∙ fresh) in cc

  begins_more : (x : ℕ) → Begins b1 x → Begins b2 x
  begins_more x h = go (cases_eq x d)
    where
      go : (x ≡ d) ⊎ (x ≢ d) → Begins b2 x
      go (inl e) = absurd (not_fresh (subst (Begins b1) e h))
      go (inr n) = ap (λ l. get_or l x false) eb ∙ (get_or-set_other b1 d x true false n ∙ h)

  within : d < length b1
  within = let a = q.some in let m = q.marked in omega (arith, a, m, room)

  begins_here : Begins b2 d
  begins_here = ap (λ l. get_or l d false) eb ∙ get_or-set_same b1 d true false within

  pub written_packing : IsPacking w c2 v2 b2
  written_packing = record {
    some = p.some;
    beside = let a = q.beside in omega (arith, a, lc, lv);
    marked = let a = q.marked in let e = ap length eb in let l = length-set b1 d true in
        omega (arith, a, e, l, lc);
    room = λ x h. roomy x h (cases_eq x d);
    owned = λ x t l h e. owned x t l h e (at (x + t));
    small = λ i. small i (at i);
  }
    where
      roomy : (x : ℕ) → Begins b2 x → (x ≡ d) ⊎ (x ≢ d) → x + w ≤ length c2
      roomy x h (inl e) = omega (arith, room, e, lc)
      roomy x h (inr n) =
          let r = q.room x (sym (get_or-set_other b1 d x true false n) ∙
          (ap (λ l. get_or l x false) (sym eb) ∙ h)) in omega (arith, r, lc)

      owned : (x t : ℕ) → x + t < length c2 → t < w → slice_index c2 (x + t) ≡ t → At (x + t) →
          Begins b2 x
      owned x t l h e (inl u) = begins_more x (q.owned x t (omega (arith, l, lc)) h (sym u.0 ∙ e))
      owned x t l h e (inr (s, n, i, k, r, cs, vs)) =
          let z : d ≡ x = omega (arith, i, cs, e) in subst (Begins b2) z begins_here

      small : (i : ℕ) → At i → slice_index c2 i ≤ w
      small i (inl u) = let a = q.small i in omega (arith, a, u.0)
      small i (inr (s, n, e, k, r, cs, vs)) = omega (arith, cs, k)

  new : PackingValue
  new = record { width = w; checks = c2; values = v2; begun = b2 }

  pub written_row : HasRow (record { width = w; checks = c2; values = v2; begun = b2 }) d row
  written_row = record {
    begins = begins_here;
    room = omega (arith, room, lc);
    cells = λ t h. cell t h (some_or_none (get_or row t None));
  }
    where
      cell : (t : ℕ) → t < w → (get_or row t None ≡ None) ⊎ ((n : ℕ) × (get_or row t None ≡ Some n))
          → held_at c2 v2 (d + t) t ≡ get_or row t None
      cell t h (inl e) = held_other c2 v2 (d + t) t (λ z. not_fresh (q.owned d t
          (omega (arith, room, h)) h (sym (wr.none t e).0 ∙ z))) ∙ sym e
      cell t h (inr e) = let s = wr.there t e.0 h e.1 in
          held_here c2 v2 (d + t) t s.0 ∙ (ap Some s.1 ∙ sym e.1)

  pub written_keeps : length c1 ≤ length c + w → (length v ≡ length c → length v2 ≡ length c2) →
      Keeps (record { width = w; checks = c; values = v; begun = b })
      (record { width = w; checks = c2; values = v2; begun = b2 })
  written_keeps more even = record {
    width = refl;
    begins = λ x h. begins_more x (g.begins x ∙ h);
    cells = λ x t h l. cell x t h l (at (x + t));
    grown = let a = g.longer in omega (arith, a, lc);
    longer = omega (arith, more, lc);
    even = even;
  }
    where
      low : (x t : ℕ) → Begins b x → t < w → x + t < length c
      low x t h l = let r = p.room x h in omega (arith, r, l)

      cell : (x t : ℕ) → Begins b x → t < w → At (x + t) → held_at c2 v2 (x + t) t ≡
          held_at c v (x + t) t
      cell x t h l (inl u) = held_same c1 v1 c2 v2 (x + t) t u.0 u.1 ∙
          held_same c v c1 v1 (x + t) t (g.cells (x + t) (low x t h l)) (g.numbers (x + t))
      cell x t h l (inr (s, n, i, k, r, cs, vs)) =
          let f : slice_index c (d + s) ≡ length row =
          fit s n r (let z = low x t h l in omega (arith, z, i)) in
          let f2 : slice_index c (x + t) ≡ length row = ap (slice_index c) i ∙ f in
          held_other c2 v2 (x + t) t (λ z. not_fresh (subst (Begins b1)
          (let y : x ≡ d = omega (arith, i, cs, z) in y) (g.begins x ∙ h)))
          ∙ sym (held_other c v (x + t) t (λ z. omega (arith, f2, z, len, l)))

  pub written_values : (m : ℕ) → AreAtMost m v → RowAtMost m row → AreAtMost m v2
  written_values m a r i = go (at i)
    where
      go : At i → slice_index v2 i ≤ m
      go (inl u) = let e = g.numbers i in let l = a i in omega (arith, e, l, u.1)
      go (inr (s, n, e, k, rs, cs, vs)) = let l = r s n rs in omega (arith, l, vs)

  -- what place i has of the row, and what stands there then
  abbrev Place : ℕ → Type 0
  Place i = ((number_there row d i ≡ None) × (slice_index c2 i ≡ slice_index c1 i) ×
      (slice_index v2 i ≡ slice_index v1 i)) ⊎
      ((s : ℕ) × (n : ℕ) × (i ≡ d + s) × (number_there row d i ≡ Some n) ×
      (slice_index c2 i ≡ s) × (slice_index v2 i ≡ n))

  place_at : (i : ℕ) → Place i
  place_at i = go (less_or_not i d)
    where
      behind : d ≤ i → (get_or row (i - d) None ≡ None) ⊎
          ((n : ℕ) × (get_or row (i - d) None ≡ Some n)) → Place i
      behind l (inl e) =
          let at : d + (i - d) ≡ i = omega (arith, l) in
          let same = wr.none (i - d) e in
          inl (
            ap (λ (b : Bool). if b then get_or row (i - d) None else None) (le-leb d i l) ∙ e,
            subst (λ (x : ℕ). slice_index c2 x ≡ slice_index c1 x) at same.0,
            subst (λ (x : ℕ). slice_index v2 x ≡ slice_index v1 x) at same.1,
          )
      behind l (inr (n, e)) =
          let at : d + (i - d) ≡ i = omega (arith, l) in
          let there = wr.there (i - d) n (inside (i - d) n e) e in
          inr (
            i - d,
            n,
            sym at,
            ap (λ (b : Bool). if b then get_or row (i - d) None else None) (le-leb d i l) ∙ e,
            subst (λ (x : ℕ). slice_index c2 x ≡ i - d) at there.0,
            subst (λ (x : ℕ). slice_index v2 x ≡ n) at there.1,
          )

      go : (i < d) ⊎ (d ≤ i) → Place i
      go (inl l) = let same = wr.before i l in
          inl (
            ap (λ (b : Bool). if b then get_or row (i - d) None else None) (lt-leb d i l),
            same.0,
            same.1,
          )
      go (inr l) = behind l (some_or_none (get_or row (i - d) None))

  -- the cells are those with the row
  pub exact : length c1 ≡ max (length c) (d + length row) → length v2 ≡ length c2 →
      length b2 ≡ length c2 →
      record { width = w; checks = c2; values = v2; begun = b2 } ≡
      with_row (record { width = w; checks = c; values = v; begun = b }) row d
  exact lm le lb = λ k. record {
    width = w;
    checks = checks k;
    values = values k;
    begun = begun k;
  }
    where
      first : (i : ℕ) → i < length c1 → slice_index c1 i ≡ get_or c i w
      first i l = go (less_or_not i (length c))
        where
          go : (i < length c) ⊎ (length c ≤ i) → slice_index c1 i ≡ get_or c i w
          go (inl m) = g.cells i m ∙ get_or_default c i 0 w m
          go (inr m) = g.free i m l ∙ sym (get_or_past c i w m)

      check : (i : ℕ) → i < length c1 → Place i → slice_index c2 i ≡
          (if is_some (number_there row d i) then i - d else get_or c i w)
      check i l (inl u) = u.1 ∙ (first i l ∙
          ap (λ (o : Option ℕ). if is_some o then i - d else get_or c i w) (sym u.0))
      check i l (inr (s, n, e, there, cs, vs)) =
          let z : slice_index c2 i ≡ i - d = omega (arith, cs, e) in
          z ∙ ap (λ (o : Option ℕ). if is_some o then i - d else get_or c i w) (sym there)

      checks : c2 ≡ map (λ i. if is_some (number_there row d i) then i - d else get_or c i w)
          (range_with_len 0 (max (length c) (d + length row)))
      checks = fill_by_all (λ i. if is_some (number_there row d i) then i - d else get_or c i w) c2
          (max (length c) (d + length row)) 0 (lc ∙ lm)
          (λ i l. check i (omega (arith, l, lm)) (place_at i))

      value : (i : ℕ) → Place i → slice_index v2 i ≡
          unwrap_or (number_there row d i) (slice_index v i)
      value i (inl u) = u.2 ∙ (g.numbers i ∙
          ap (λ (o : Option ℕ). unwrap_or o (slice_index v i)) (sym u.0))
      value i (inr (s, n, e, there, cs, vs)) = vs ∙
          ap (λ (o : Option ℕ). unwrap_or o (slice_index v i)) (sym there)

      values : v2 ≡ map (λ i. unwrap_or (number_there row d i) (slice_index v i))
          (range_with_len 0 (max (length c) (d + length row)))
      values = fill_by_all (λ i. unwrap_or (number_there row d i) (slice_index v i)) v2
          (max (length c) (d + length row)) 0 (le ∙ (lc ∙ lm)) (λ i l. value i (place_at i))

      start : (i : ℕ) → (i ≡ d) ⊎ (i ≢ d) → get_or b2 i false ≡ (nat_eq i d || get_or b i false)
      start i (inl e) = ap (λ (x : ℕ). get_or b2 x false) e ∙ (begins_here ∙
          sym (ap (λ (t : Bool). t || get_or b i false) (eq-eqb i d e)))
      start i (inr n) = ap (λ (l : List Bool). get_or l i false) eb ∙
          (get_or-set_other b1 d i true false n ∙ (g.begins i ∙
          sym (ap (λ (t : Bool). t || get_or b i false) (ne_eqb i d n))))

      begun : b2 ≡ map (λ i. nat_eq i d || get_or b i false)
          (range_with_len 0 (max (length c) (d + length row)))
      begun = fill_by_all (λ i. nat_eq i d || get_or b i false) b2
          (max (length c) (d + length row)) false (lb ∙ (lc ∙ lm))
          (λ i l. start i (cases_eq i d))

  pub written : length c1 ≤ length c + w → (length v ≡ length c → length v2 ≡ length c2) →
      IsPut (record { width = w; checks = c; values = v; begun = b })
      (record { width = w; checks = c2; values = v2; begun = b2 }) row d
  written more even = record {
    placed = written_row;
    keeps = written_keeps more even;
    values = written_values;
  }

-- what was kept has the same entries
pub kept_entries : (old new : PackingValue) (d : ℕ) (entries : List Entry) → Keeps old new →
    HasEntries old d entries → HasEntries new d entries
kept_entries old new d entries k h = record {
  begins = k.begins d h.begins;
  room = let a = k.width in let l = k.grown in let r = h.room in omega (arith, a, l, r);
  cells = λ t l. (let z : t < old.width = (let a = k.width in omega (arith, a, l)) in
      k.cells d t h.begins z ∙ h.cells t z);
}

-- nothing is changed
pub keeps_all : (p : PackingValue) → Keeps p p
keeps_all p = record {
  width = refl;
  begins = λ d h. h;
  cells = λ d t h l. refl;
  grown = omega arith;
  longer = omega arith;
  even = λ e. e;
}

-- a row with the numbers of these entries
pub entered : (old new : PackingValue) (row : List (Option ℕ)) (entries : List Entry) (d : ℕ) →
    length row ≡ old.width → ((t : ℕ) → t < old.width → get_or row t None ≡ entry_at entries t) →
    IsPut old new row d → IsEntered old new entries d
entered old new row entries d len same p = record {
  row = record {
    begins = p.placed.begins;
    room = p.placed.room;
    cells = λ t l. p.placed.cells t l ∙ same t (let w = p.keeps.width in omega (arith, w, l));
  };
  keeps = p.keeps;
  values = λ n a e. p.values n a (λ t k r.
      (let l = in_row row t k r in
      e t k (sym (same t (omega (arith, l, len))) ∙ r)));
}

-- a row that is there already
pub found : (p : PackingValue) (row : List (Option ℕ)) (d : ℕ) → HasRow p d row → IsPut p p row d
found p row d h = record { placed = h; keeps = keeps_all p; values = λ n a r. a }

-- the cells of packed rows, as a comb
pub has_rows : (p : PackingValue) (places r k v : List ℕ) (rows : List (List Entry)) (w : ℕ) →
    p.width ≡ w → HaveEntries p places rows → r ≡ places → k ≡ p.checks → v ≡ p.values →
    AreAtMost p.width p.checks → length p.checks ≤ length p.values →
    length p.checks ≤ 2 * (length rows * w) → length p.values ≡ length p.checks →
    HasRows rows w (record { rows = r; checks = k; values = v })
has_rows p places r k v rows w e h er ek ev small beside short even = record {
  count = ap length er ∙ h.count;
  beside = let a = ap length ek in let b = ap length ev in omega (arith, a, b, beside);
  even = ap length ev ∙ even ∙ sym (ap length ek);
  cells = λ q t l m. (let z : t < p.width = omega (arith, e, m) in
      ap (λ x. held_at x v (slice_index r q + t) t) ek
      ∙ (ap (λ x. held_at p.checks x (slice_index r q + t) t) ev
      ∙ (ap (λ x. held_at p.checks p.values (slice_index x q + t) t) er
      ∙ (h.each q l).cells t z)));
  inside = λ q t l m. (let room = (h.each q l).room in
      let a = ap length ek in let b = ap (λ x. slice_index x q) er in
      omega (arith, room, a, b, e, m));
  checks = λ i. (let s = small i in let a = ap (λ x. slice_index x i) ek in
      omega (arith, s, a, e));
  short = let a = ap length ek in omega (arith, a, short);
}

-- one more row has its place
pub places_more : (old new : PackingValue) (rows : List (List Entry)) (places places' : List ℕ)
    (q place : ℕ) → length places ≡ q → places' ≡ places ++ place ∷ [] →
    IsEntered old new (get_or rows q []) place →
    ((k : ℕ) → k < q → HasEntries old (slice_index places k) (get_or rows k [])) →
    (k : ℕ) → k < q + 1 → HasEntries new (slice_index places' k) (get_or rows k [])
places_more old new rows places places' q place len e i each k l = go (below_or_last k q l)
  where
    go : (k < q) ⊎ (k ≡ q) → HasEntries new (slice_index places' k) (get_or rows k [])
    go (inl h) =
        let at : slice_index places' k ≡ slice_index places k = ap (λ x. slice_index x k) e ∙
        get_or_append_left places (place ∷ []) 0 k (omega (arith, h, len)) in
        subst (λ d. HasEntries new d (get_or rows k [])) (sym at)
        (kept_entries old new (slice_index places k) (get_or rows k []) i.keeps (each k h))
    go (inr h) =
        let at : slice_index places' k ≡ place = ap (λ x. slice_index x k) e ∙
        (ap (slice_index (places ++ place ∷ [])) (h ∙ sym len) ∙
        get_or-append_seam places place [] 0) in
        subst (λ d. HasEntries new d (get_or rows k [])) (sym at)
        (subst (λ x. HasEntries new place (get_or rows x [])) (sym h) i.row)

pub short_more : (first old new : PackingValue) (q : ℕ) → old.width ≡ first.width →
    length old.checks ≤ length first.checks + q * first.width →
    length new.checks ≤ length old.checks + old.width →
    length new.checks ≤ length first.checks + (q + 1) * first.width
short_more first old new q e l m =
    let z : (q + 1) * first.width ≡ q * first.width + first.width = grind arith in
    omega (arith, e, l, m, z)
