-- The steps of packing a row: room, one cell, the whole row.
use Rattle.std.proofs.Common.{ℕ, zero, suc, ◌≡◌, ◌≢◌, ◌+◌, ◌<◌, ◌≤◌, Bool, true, false, nat_eq}
use Rattle.std.proofs.Common.{nat_lt, List, [], ◌∷◌, ◌++◌, length, take, drop, get_or, set, refl}
use Rattle.std.proofs.Common.{sym, ap, ◌∙◌, subst, inl, inr, ◌⊎◌, arith, length-append, Option}
use Rattle.std.proofs.Common.{Some, None, is_some, slice_index, if◌then◌else◌}
use Rattle.std.proofs.Math.Seq.{get_or-append_seam}
use Rattle.std.proofs.lemmas.Bool.Decides.{eqb_tells, leb_tells}
use Rattle.std.proofs.lemmas.List.{get_or-set_same, get_or-set_other, get_or_past}
use Rattle.std.proofs.lemmas.List.{get_or_append_left, take-append-le, take_all}
use Rattle.std.proofs.lemmas.List.FromFn.{get_or-map-range_with_len, length-map-range_with_len}
use Rattle.ybitsets.specs.Packed.{entry_of, held_at, unpacked_row, unpack, FitsFrom}
use Rattle.ybitsets.specs.Packed.{SameCells, IsWritten, IsPushed}

same_yes : (a b : ℕ) → a ≡ b → nat_eq a b ≡ true
same_yes a b e = go (eqb_tells a b)
  where
    go : ((nat_eq a b ≡ true) × (a ≡ b)) ⊎ ((nat_eq a b ≡ false) × (a ≢ b)) → nat_eq a b ≡ true
    go (inl p) = p.0
    go (inr p) = absurd (p.1 e)

same_no : (a b : ℕ) → a ≢ b → nat_eq a b ≡ false
same_no a b n = go (eqb_tells a b)
  where
    go : ((nat_eq a b ≡ true) × (a ≡ b)) ⊎ ((nat_eq a b ≡ false) × (a ≢ b)) → nat_eq a b ≡ false
    go (inl p) = absurd (n p.1)
    go (inr p) = p.0

less_yes : (a b : ℕ) → a < b → nat_lt a b ≡ true
less_yes a b h = go (leb_tells (suc a) b)
  where
    go : ((nat_lt a b ≡ true) × (suc a ≤ b)) ⊎ ((nat_lt a b ≡ false) × (b < suc a)) →
        nat_lt a b ≡ true
    go (inl p) = p.0
    go (inr p) = absurd (let l = p.1 in omega (arith, l))

less_no : (a b : ℕ) → b ≤ a → nat_lt a b ≡ false
less_no a b h = go (leb_tells (suc a) b)
  where
    go : ((nat_lt a b ≡ true) × (suc a ≤ b)) ⊎ ((nat_lt a b ≡ false) × (b < suc a)) →
        nat_lt a b ≡ false
    go (inl p) = absurd (let l = p.1 in omega (arith, l))
    go (inr p) = p.0

pub split_less : (a b : ℕ) → (a < b) ⊎ ((a ≡ b) ⊎ (b < a))
split_less a b = grind arith

-- the default at the end changes nothing
pushed_same : {X : Type 0} (xs : List X) (d : X) (k : ℕ) → get_or (xs ++ d ∷ []) k d ≡ get_or xs k d
pushed_same [] d zero = refl
pushed_same [] d (suc k) = refl
pushed_same (x ∷ xs) d zero = refl
pushed_same (x ∷ xs) d (suc k) = pushed_same xs d k

module _ {T : Type 0} where
  pub same_more : (c c' c'' : List (Option T)) (o o' : List ℕ) → SameCells c c' o o' →
      c'' ≡ c' ++ None ∷ [] → length o' ≤ length c'' → SameCells c c'' o o'
  same_more c c' c'' o o' s e l = record {
    cells_same = λ k. ap (λ xs. get_or xs k None) e ∙ pushed_same c' None k ∙ s.cells_same k;
    owners_same = s.owners_same;
    room = l;
  }

  held_same : (c c' : List (Option T)) (o o' : List ℕ) → SameCells c c' o o' →
      (q k : ℕ) → held_at c' o' q k ≡ held_at c o q k
  held_same c c' o o' s q k =
      ap (λ n. if nat_eq n (q + 1) then get_or c' k None else None) (s.owners_same k) ∙ ap
      (λ x. if nat_eq (slice_index o k) (q + 1) then x else None) (s.cells_same k)

  held_free : (c : List (Option T)) (o : List ℕ) (q k : ℕ) → slice_index o k ≢ q + 1 →
      held_at c o q k ≡ None
  held_free c o q k n = ap (λ b. if b then get_or c k None else None)
      (same_no (slice_index o k) (q + 1) n)

  module _ (t : ℕ) (c0 c : List (Option T)) (o0 o : List ℕ) (n d : ℕ) (row : List (Option T))
      (w : IsWritten t c0 c o0 o n d row) where
    row_less : (s : ℕ) → s ≢ t → (if nat_lt s t then get_or row s None else None) ≡
        (if nat_lt s (t + 1) then get_or row s None else None)
    row_less s ne = go (split_less s t)
      where
        at : Bool → Option T
        at b = if b then get_or row s None else None

        go : (s < t) ⊎ ((s ≡ t) ⊎ (t < s)) → at (nat_lt s t) ≡ at (nat_lt s (t + 1))
        go (inl l) = ap at (less_yes s t l ∙ sym (less_yes s (t + 1) (omega arith)))
        go (inr (inl e)) = absurd (ne e)
        go (inr (inr l)) = ap at (less_no s t (omega arith) ∙ sym (less_no s (t + 1) (omega arith)))

    row_here : get_or row t None ≡ (if nat_lt t (t + 1) then get_or row t None else None)
    row_here = sym (ap (λ b. if b then get_or row t None else None)
        (less_yes t (t + 1) (omega arith)))

    none_is : (x : Option T) → is_some x ≡ false → x ≡ None
    none_is None e = refl
    none_is (Some x) e = cc

    -- a column without an entry
    pub written_skip : is_some (get_or row t None) ≡ false → IsWritten (t + 1) c0 c o0 o n d row
    written_skip e = record {
      old = w.old;
      new = λ s. go s (eqb_tells s t);
      owners_in = w.owners_in;
    }
      where
        go : (s : ℕ) → ((nat_eq s t ≡ true) × (s ≡ t)) ⊎ ((nat_eq s t ≡ false) × (s ≢ t)) →
            held_at c o n (d + s) ≡ (if nat_lt s (t + 1) then get_or row s None else None)
        go s (inl p) =
            subst (λ s. held_at c o n (d + s) ≡ (if nat_lt s (t + 1) then get_or row s None else
            None)) (sym p.1)
            (w.new t ∙ ap (λ b. if b then get_or row t None else None) (less_no t t (omega arith)) ∙
            sym (none_is (get_or row t None) e) ∙ row_here)
        go s (inr p) = w.new s ∙ row_less s p.1

    -- a column with one
    pub written_more : d + t < length o → length o ≤ length c → slice_index o (d + t) ≡ 0 →
        IsWritten (t + 1) c0 (set c (d + t) (get_or row t None)) o0 (set o (d + t) (n + 1)) n d row
    written_more l r f = record {
      old = old;
      new = λ s. new s (eqb_tells s t);
      owners_in = λ k. inside k (eqb_tells k (d + t));
    }
      where
        c' : List (Option T)
        c' = set c (d + t) (get_or row t None)

        o' : List ℕ
        o' = set o (d + t) (n + 1)

        owner : slice_index o' (d + t) ≡ n + 1
        owner = get_or-set_same o (d + t) (n + 1) 0 l

        other : (q k : ℕ) → k ≢ d + t → held_at c' o' q k ≡ held_at c o q k
        other q k ne =
            ap (λ m. if nat_eq m (q + 1) then get_or c' k None else None)
            (get_or-set_other o (d + t) k (n + 1) 0 ne)
            ∙ ap (λ x. if nat_eq (slice_index o k) (q + 1) then x else None)
            (get_or-set_other c (d + t) k (get_or row t None) None ne)

        old : (q k : ℕ) → q < n → held_at c' o' q k ≡ held_at c0 o0 q k
        old q k h = go (eqb_tells k (d + t))
          where
            go : ((nat_eq k (d + t) ≡ true) × (k ≡ d + t)) ⊎
                ((nat_eq k (d + t) ≡ false) × (k ≢ d + t)) → held_at c' o' q k ≡ held_at c0 o0 q k
            go (inl p) =
                subst (λ k. held_at c' o' q k ≡ held_at c0 o0 q k) (sym p.1)
                (held_free c' o' q (d + t) (λ e. (let a = owner in omega (arith, a, e, h))) ∙ sym
                (held_free c o q (d + t) (λ e. omega (arith, f, e))) ∙ w.old q (d + t) h)
            go (inr p) = other q k p.1 ∙ w.old q k h

        new : (s : ℕ) → ((nat_eq s t ≡ true) × (s ≡ t)) ⊎ ((nat_eq s t ≡ false) × (s ≢ t)) →
            held_at c' o' n (d + s) ≡ (if nat_lt s (t + 1) then get_or row s None else None)
        new s (inl p) =
            subst (λ s. held_at c' o' n (d + s) ≡ (if nat_lt s (t + 1) then get_or row s None else
            None)) (sym p.1)
            (ap (λ b. if b then get_or c' (d + t) None else None) (same_yes (slice_index o' (d + t))
            (n + 1) owner) ∙ get_or-set_same c (d + t) (get_or row t None) None (omega arith) ∙
            row_here)
        new s (inr p) = other n (d + s) (λ e. p.1 (omega (arith, e))) ∙ w.new s ∙ row_less s p.1

        inside : (k : ℕ) → ((nat_eq k (d + t) ≡ true) × (k ≡ d + t)) ⊎
            ((nat_eq k (d + t) ≡ false) × (k ≢ d + t)) → slice_index o' k ≤ n + 1
        inside k (inl p) = subst (λ k. slice_index o' k ≤ n + 1) (sym p.1) (let a = owner in
            omega (arith, a))
        inside k (inr p) = let a = get_or-set_other o (d + t) k (n + 1) 0 p.1 in
            let b = w.owners_in k in omega (arith, a, b)

  -- what is free further on stays free
  pub fits_more : (t : ℕ) (o : List ℕ) (row : List (Option T)) (d v : ℕ) → FitsFrom t o row d →
      FitsFrom (t + 1) (set o (d + t) v) row d
  fits_more t o row d v f s h l e = get_or-set_other o (d + t) (d + s) v 0
      (λ x. omega (arith, x, h)) ∙ f s (omega (arith, h)) l e

  pub fits_skip : (t : ℕ) (o : List ℕ) (row : List (Option T)) (d : ℕ) → FitsFrom t o row d →
      FitsFrom (t + 1) o row d
  fits_skip t o row d f s h l e = f s (omega (arith, h)) l e

  pub entry_is : (c : List (Option T)) (o ds : List ℕ) (w q t : ℕ) → q < length ds → t < w →
      entry_of (unpack c o ds w) q t ≡ held_at c o q (slice_index ds q + t)
  entry_is c o ds w q t h l =
      ap (λ row. get_or row t None)
      (get_or-map-range_with_len (λ q. unpacked_row c o w q (slice_index ds q)) 0
      (length ds) q q [] h (omega arith))
      ∙ get_or-map-range_with_len (λ t. held_at c o q (slice_index ds q + t)) 0 w t t None l
      (omega arith)

  pub entry_past : (c : List (Option T)) (o ds : List ℕ) (w q t : ℕ) → q < length ds → w ≤ t →
      entry_of (unpack c o ds w) q t ≡ None
  entry_past c o ds w q t h l =
      ap (λ row. get_or row t None)
      (get_or-map-range_with_len (λ q. unpacked_row c o w q (slice_index ds q)) 0
      (length ds) q q [] h (omega arith))
      ∙ get_or_past (unpacked_row c o w q (slice_index ds q)) t None
      (let n = length-map-range_with_len (λ t. held_at c o q (slice_index ds q + t)) 0 w in
      omega (arith, n))

  pub rows_count : (c : List (Option T)) (o ds : List ℕ) (w : ℕ) → length (unpack c o ds w) ≡
      length ds
  rows_count c o ds w = length-map-range_with_len (λ q. unpacked_row c o w q (slice_index ds q)) 0
      (length ds)

  -- a row written at the end of the rows
  pub pushed : (c c1 c2 : List (Option T)) (o o1 o2 ds ds' : List ℕ) (w d : ℕ)
      (row : List (Option T)) → SameCells c c1 o o1 → IsWritten (length row) c1 c2 o1 o2
      (length ds) d row → ds' ≡ ds ++ d ∷ [] → length row ≡ w
      → IsPushed (record { width = w; rows = unpack c o ds w })
      (record { width = w; rows = unpack c2 o2 ds' w }) row
  pushed c c1 c2 o o1 o2 ds ds' w d row s x e len = record {
    width = refl;
    count = rows_count c2 o2 ds' w ∙ longer ∙ ap (λ n. n + 1) (sym (rows_count c o ds w));
    before = λ q t h. (let l : q < length ds = omega (arith, h, rows_count c o ds w) in
        before q t l (split_less t w));
    here = λ t h. ap (λ q. entry_of (unpack c2 o2 ds' w) q t) (rows_count c o ds w) ∙ here t h;
  }
    where
      longer : length ds' ≡ length ds + 1
      longer = ap length e ∙ length-append ds (d ∷ [])

      before : (q t : ℕ) → q < length ds → (t < w) ⊎ ((t ≡ w) ⊎ (w < t)) →
          entry_of (unpack c2 o2 ds' w) q t ≡ entry_of (unpack c o ds w) q t
      before q t h (inl l) =
          let at : slice_index ds' q ≡ slice_index ds q = ap (λ xs. get_or xs q 0) e ∙
          get_or_append_left ds (d ∷ []) 0 q h in
          entry_is c2 o2 ds' w q t (omega (arith, h, longer)) l ∙ ap (λ k. held_at c2 o2 q (k + t))
          at ∙ x.old q (slice_index ds q + t) h ∙ held_same c c1 o o1 s q (slice_index ds q + t)
          ∙ sym (entry_is c o ds w q t h l)
      before q t h (inr (inl l)) = entry_past c2 o2 ds' w q t (omega (arith, h, longer))
          (omega (arith, l)) ∙ sym (entry_past c o ds w q t h (omega (arith, l)))
      before q t h (inr (inr l)) = entry_past c2 o2 ds' w q t (omega (arith, h, longer))
          (omega (arith, l)) ∙ sym (entry_past c o ds w q t h (omega (arith, l)))

      here : (t : ℕ) → t < w → entry_of (unpack c2 o2 ds' w) (length ds) t ≡ get_or row t None
      here t h =
          let at : slice_index ds' (length ds) ≡ d = ap (λ xs. get_or xs (length ds) 0) e ∙
          get_or-append_seam ds d [] 0 in
          entry_is c2 o2 ds' w (length ds) t (omega (arith, longer)) h ∙ ap
          (λ k. held_at c2 o2 (length ds) (k + t)) at ∙ x.new t
          ∙ ap (λ b. if b then get_or row t None else None)
          (less_yes t (length row) (omega (arith, h, len)))

-- elements written over as many
pub refill_same : {X : Type 0} (n : ℕ) (ws xs : List X) → length ws ≡ n →
    take n (ws ++ drop (length ws) xs) ≡ ws
refill_same n ws xs e = take-append-le n ws (drop (length ws) xs) (omega arith) ∙ take_all n ws
    (omega arith)
