-- What is read of the arrays.
use Rattle.std.proofs.Common.{ℕ, ◌≡◌, ◌+◌, ◌*◌, ◌/◌, ◌<◌, ◌≤◌, ◌^◌, ◌⊎◌, inl, inr, Bool, false}
use Rattle.std.proofs.Common.{nat_eq, List, [], length, get_or, refl, sym, ap, ◌∙◌, subst, arith}
use Rattle.std.proofs.Common.{Option, Some, None, is_some, slice_index, if◌then◌else◌, unwrap_or}
use Rattle.std.proofs.lemmas.List.{get_or_past}
use Rattle.std.proofs.lemmas.List.FromFn.{length-map-range_with_len, get_or-map-range_with_len}
use Rattle.ysymbols.specs.Grammar.{most_symbols}
use Rattle.ybitsets.specs.Limits.{most_states}
use Rattle.ylalr.specs.Collection.{goto_in}
use Rattle.ytables.specs.declared.cell.Action.TheVariants.{Reduce, Error}
use Rattle.ytables.specs.Tables.{TablesValue}
use Rattle.yprovenance.specs.Candidates.{shift_in}
use Rattle.ycode.specs.declared.comb.Comb.{Comb}
use Rattle.ycode.specs.declared.entry.Entry.{Entry}
use Rattle.ycode.specs.declared.policy.Policy.{Policy}
use Rattle.ycode.specs.declared.sizes.Sizes.{Sizes}
use Rattle.ycode.specs.Bits.{bit_of, SetsValue, IsSets}
use Rattle.ycode.specs.Cells.{wanted_at, refused_at, AreSizes, AreCells, AreSets, IsUsual}
use Rattle.ycode.specs.Combs.{held, place_of, HasRows, AreAtMost}
use Rattle.ycode.specs.Entries.{NumbersAtMost, EntriesAtMost}
use Rattle.ycode.specs.Policies.{act_at, always_at, filled_by, rule_for}
use Rattle.ycode.specs.Reading.{done_by, is_explicit}
use Rattle.ycode.specs.States.{states_of, tokens_of, rules_of, symbols_of, reductions_in}
use Rattle.ycode.specs.Targets.{AreTargets, gotos_over}
use Rattle.ycode.specs.Usual.{most_usual}
use Rattle.ycode.proofs.BitSteps.{byte_within}
use Rattle.ycode.proofs.PackingSteps.{less_or_not}
use Rattle.ycode.proofs.CellSteps.{done_right, refusal_right, default_right, goto_right}
use Rattle.ycode.proofs.PolicySteps.{act_fits, always_rule, rule_fits}

-- what is no token, by a default reduction or none
none_right : (u : ℕ) (b : Bool) (o : Option ℕ) → b ≡ is_some o →
    ((r : ℕ) → o ≡ Some r → u ≡ r) →
    (if b then Reduce u else Error) ≡ filled_by false o Error
none_right u b None e f = ap (λ (x : Bool). if x then Reduce u else Error) e
none_right u b (Some r) e f = ap (λ (x : Bool). if x then Reduce u else Error) e ∙
    ap Reduce (f r refl)

-- a comb's places are small numbers
pub places_small : (w : ℕ) (rows : List (List Entry)) (c : Comb) →
    length rows * w ≤ most_states * most_symbols → 0 < w → HasRows rows w c →
    AreAtMost (2 ^ 28) c.rows
places_small w rows c many some h q = go (less q)
  where
    less : (q : ℕ) → (q < length c.rows) ⊎ (length c.rows ≤ q)
    less q = grind arith

    go : (q < length c.rows) ⊎ (length c.rows ≤ q) → slice_index c.rows q ≤ 2 ^ 28
    go (inl l) =
        let i = h.inside q 0 (let e = h.count in omega (arith, e, l)) some in
        let s = h.short in omega (arith, i, s, many)
    go (inr l) = let e = get_or_past c.rows q 0 l in omega (arith, e)

module _ (v : TablesValue) (z : Sizes) (a : AreSizes v z) where
  module _ (p : Policy) (usual sets : List ℕ) (s : SetsValue) (rows : List (List Entry)) (c : Comb)
      (cells : AreCells p v (states_of v) usual sets s rows)
      (h : HasRows rows (tokens_of v + 1) c) where
    -- the number of a cell
    held_is : (q t : ℕ) → q < states_of v → t < tokens_of v →
        held c q t ≡ wanted_at p v (slice_index usual q) q t
    held_is q t l m = h.cells q t (let e = cells.counts.2 in omega (arith, e, l))
        (omega (arith, m)) ∙ cells.entries q t l m

    -- what is no token
    pub none_is : (q : ℕ) → q < states_of v →
        done_by (states_of v) (rules_of v) (slice_index usual q)
        (bit_of s.bytes (slice_index sets q * s.span) (tokens_of v)) (held c q (tokens_of v)) ≡
        filled_by false (rule_for p v q) Error
    none_is q l =
        ap (done_by (states_of v) (rules_of v) (slice_index usual q)
        (bit_of s.bytes (slice_index sets q * s.span) (tokens_of v)))
        (h.cells q (tokens_of v) (let e = cells.counts.2 in omega (arith, e, l)) (omega arith)
        ∙ cells.none q l)
        ∙ none_right (slice_index usual q)
        (bit_of s.bytes (slice_index sets q * s.span) (tokens_of v)) (rule_for p v q)
        (cells.members q l).none (cells.rules q l).default

    some : 0 < rules_of v
    some = let e = a.rules in let p = a.some_rules in omega (arith, e, p)

    pub action_is : (q t : ℕ) → q < states_of v → t < tokens_of v →
        done_by (states_of v) (rules_of v) (slice_index usual q)
        (bit_of s.bytes (slice_index sets q * s.span) t) (held c q t) ≡ act_at p v q t
    action_is q t l m =
        ap (done_by (states_of v) (rules_of v) (slice_index usual q)
        (bit_of s.bytes (slice_index sets q * s.span) t)) (held_is q t l m)
        ∙ done_right (states_of v) (rules_of v) (slice_index usual q) (refused_at p v q t)
        (bit_of s.bytes (slice_index sets q * s.span) t) (act_at p v q t) some
        (act_fits v z a q l p t m)
        ((cells.members q l).members t m)

    pub refusal_is : (q t : ℕ) → q < states_of v → t < tokens_of v →
        is_explicit (states_of v + rules_of v) (held c q t) ≡ refused_at p v q t
    refusal_is q t l m =
        ap (is_explicit (states_of v + rules_of v)) (held_is q t l m)
        ∙ refusal_right (states_of v) (rules_of v) (slice_index usual q)
        (is_some (shift_in v.built q t)) (act_at p v q t) some (act_fits v z a q l p t m)

    pub default_is : (q : ℕ) → q < states_of v →
        (if nat_eq (slice_index sets q) 0 then Some (slice_index usual q) else None) ≡
        always_at p v q
    default_is q l = default_right (always_at p v q) (slice_index sets q) (slice_index usual q)
        (cells.members q l).zero (λ r e. (cells.rules q l).default r (always_rule p v q r e))

    pub action_inside : (q t : ℕ) → q < states_of v → t ≤ tokens_of v →
        place_of c q t < length c.checks
    action_inside q t l m = h.inside q t (let e = cells.counts.2 in omega (arith, e, l))
        (omega (arith, m))

    pub bits_inside : AreSets p v (states_of v) s → IsSets s → (q t : ℕ) → q < states_of v →
        t ≤ tokens_of v → slice_index sets q * s.span + t / 8 < length s.bytes
    bits_inside b i q t l m =
        let e = i.sized in
        let w = byte_within (slice_index sets q) s.count s.span t (cells.members q l).number
        (let x = b.span in omega (arith, x, m)) in
        omega (arith, e, w)

    -- past the end of a list is 0
    inside_or_zero : (xs : List ℕ) (n q : ℕ) → (q < length xs → slice_index xs q ≤ n) →
        slice_index xs q ≤ n
    inside_or_zero xs n q f = go (less q)
      where
        less : (q : ℕ) → (q < length xs) ⊎ (length xs ≤ q)
        less q = grind arith

        go : (q < length xs) ⊎ (length xs ≤ q) → slice_index xs q ≤ n
        go (inl l) = f l
        go (inr l) = let e = get_or_past xs q 0 l in omega (arith, e)

    pub usual_most : AreAtMost (rules_of v) usual
    usual_most q = inside_or_zero usual (rules_of v) q (λ l.
        (let r = (cells.rules q (let e = cells.counts.0 in omega (arith, e, l))).rule in
        omega (arith, r)))

    pub sets_most : AreSets p v (states_of v) s → AreAtMost (states_of v) sets
    sets_most b q = inside_or_zero sets (states_of v) q (λ l.
        (let r = (cells.members q (let e = cells.counts.1 in omega (arith, e, l))).number in
        let f = b.few in omega (arith, r, f)))

    pub values_most : NumbersAtMost (states_of v + rules_of v) rows
    values_most q = go (less q)
      where
        less : (q : ℕ) → (q < states_of v) ⊎ (states_of v ≤ q)
        less q = grind arith

        go : (q < states_of v) ⊎ (states_of v ≤ q) →
            EntriesAtMost (states_of v + rules_of v) (get_or rows q [])
        go (inl l) = cells.most q l
        go (inr l) = subst (EntriesAtMost (states_of v + rules_of v))
            (sym (get_or_past rows q [] (let e = cells.counts.2 in omega (arith, e, l))))
            (λ t k e. (let f : None ≡ Some k = e in absurd (cc)))

  module _ (usual : List ℕ) (rows : List (List Entry)) (c : Comb)
      (t : AreTargets v (length usual) usual rows) (h : HasRows rows (states_of v) c) where
    pub goto_is : (q x n : ℕ) → q < states_of v → tokens_of v + x < symbols_of v →
        goto_in v.built q (tokens_of v + x) ≡ Some n →
        unwrap_or (held c x q) (slice_index usual x) ≡ n
    goto_is q x n l m e =
        let low : x < length usual = (let k = t.count in omega (arith, k, m)) in
        ap (λ o. unwrap_or o (slice_index usual x)) (h.cells x q
        (let k = t.made in omega (arith, k, low)) l ∙ t.entries q x l low)
        ∙ goto_right (slice_index usual x) n (goto_in v.built q (tokens_of v + x)) e

    pub goto_in_range : (q x n : ℕ) → q < states_of v → tokens_of v + x < symbols_of v →
        goto_in v.built q (tokens_of v + x) ≡ Some n →
        unwrap_or (held c x q) (slice_index usual x) < states_of v
    goto_in_range q x n l m e = let i = goto_is q x n l m e in
        let f = a.gotos q (tokens_of v + x) n l m e in omega (arith, i, f)

    pub goto_inside : (q x : ℕ) → q < states_of v → tokens_of v + x < symbols_of v →
        place_of c x q < length c.checks
    goto_inside q x l m = h.inside x q (let k = t.made in let n = t.count in
        omega (arith, k, n, m)) l

    pub targets_most : NumbersAtMost (states_of v) rows
    targets_most x = go (less x)
      where
        less : (x : ℕ) → (x < length usual) ⊎ (length usual ≤ x)
        less x = grind arith

        go : (x < length usual) ⊎ (length usual ≤ x) →
            EntriesAtMost (states_of v) (get_or rows x [])
        go (inl l) = t.most x l
        go (inr l) = subst (EntriesAtMost (states_of v))
            (sym (get_or_past rows x [] (let e = t.made in omega (arith, e, l))))
            (λ i k e. (let f : None ≡ Some k = e in absurd (cc)))

-- the usual rule of a state that reduces by default, and of another
module _ (p : Policy) (v : TablesValue) (z : Sizes) (a : AreSizes v z) (q r : ℕ) where
  pub usual_default : q < states_of v → rule_for p v q ≡ Some r → IsUsual p v q r
  usual_default l e = record {
    rule = (rule_fits v z a q l p r e).1;
    default = λ s f. (let g : Some r ≡ Some s = sym e ∙ f in cc);
    is = ap (λ (o : Option ℕ). unwrap_or o (most_usual (reductions_in v q))) (sym e);
  }

  pub usual_other : r < rules_of v → rule_for p v q ≡ None →
      r ≡ most_usual (reductions_in v q) → IsUsual p v q r
  usual_other l e m = record {
    rule = l;
    default = λ s f. (let g : None ≡ Some s = sym e ∙ f in cc);
    is = m ∙ ap (λ (o : Option ℕ). unwrap_or o (most_usual (reductions_in v q))) (sym e);
  }

-- the states to which gotos lead
pub goto_state_below : (v : TablesValue) (z : Sizes) → AreSizes v z → (x : ℕ) →
    tokens_of v + x < symbols_of v → (q n : ℕ) → get_or (gotos_over v x) q None ≡ Some n →
    n < states_of v
goto_state_below v z a x m q n e = go (less_or_not q (states_of v))
  where
    len : length (gotos_over v x) ≡ states_of v
    len = length-map-range_with_len (λ (k : ℕ). goto_in v.built k (tokens_of v + x)) 0 (states_of v)

    go : (q < states_of v) ⊎ (states_of v ≤ q) → n < states_of v
    go (inl l) = a.gotos q (tokens_of v + x) n l m
        (sym (get_or-map-range_with_len (λ (k : ℕ). goto_in v.built k (tokens_of v + x)) 0
        (states_of v) q q None l (omega arith)) ∙ e)
    go (inr l) = let f : None ≡ Some n = sym (get_or_past (gotos_over v x) q None
        (omega (arith, len, l))) ∙ e in absurd (cc)
