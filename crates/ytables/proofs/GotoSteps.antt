-- A goto stands after an item with the dot before its symbol; one more state in the rows of gotos.
use Rattle.std.proofs.Common.{ℕ, ◌≡◌, ◌≢◌, ◌+◌, ◌-◌, ◌<◌, ◌≤◌, ◌⊎◌, ◌||◌, Bool, true, false, List}
use Rattle.std.proofs.Common.{[], ◌∷◌, length, take, drop, get_or, set, nat_eq, refl, sym, ap, ◌∙◌}
use Rattle.std.proofs.Common.{subst, inl, inr, arith, Option, Some, None, if◌then◌else◌}
use Rattle.std.specs.List.{All, Contains}
use Rattle.std.proofs.lemmas.Bool.Decides.{eqb_tells}
use Rattle.std.proofs.lemmas.List.{get_or-set_same, get_or-set_other, length-set, take_all}
use Rattle.std.proofs.lemmas.List.Elements.{All-head, All-drop, Contains-get_or}
use Rattle.std.proofs.lemmas.List.Folds.{list_any_at, list_any_more}
use Rattle.ysymbols.specs.Grammar.{ContextFree, GrammarValue, body_of}
use Rattle.ysymbols.specs.WellFormed.{WellFormed}
use Rattle.ylalr.specs.declared.items.Item.{Item}
use Rattle.ylalr.specs.Sets.{InRange}
use Rattle.ylalr.specs.Items.{Valid, start, closure, move, InCore}
use Rattle.ylalr.specs.Collection.{Collection, HasStates, IsGoto, bare_of, state_of, goto_in}
use Rattle.ybitsets.specs.Packed.{PackedRows, entry_of, IsPushed}
use Rattle.ytables.specs.Tables.{after_dot, begins_with, is_before, has_before, AreGotosTo}
use Rattle.ytables.specs.Tables.{AreGotos}

-- an item that is valid after x comes from one with its dot before x
source : (g : ContextFree) (x : ℕ) (p : List ℕ) {s : List ℕ} {r d a : ℕ} → Valid g s r d a →
    s ≡ x ∷ p → (i : Item) × InCore g p i × ((y : List ℕ) × (after_dot g i ≡ x ∷ y))
source g x p start e = cc
source g x p (closure v e h f) same = source g x p v same
source g x p (move {p = s} {r = r} {d = d} {a = a} {x = z} {y = y} v e n) same =
    let rest : s ≡ p = ap (drop 1) same in
    let head : z ≡ x = ap (λ l. get_or l 0 0) same in (
      record { rule = r; dot = d },
      (a, subst (λ l. Valid g l r d a) rest v),
      (y, e ∙ ap (λ z. z ∷ y) head),
    )

before_head : (x : ℕ) (l y : List ℕ) → l ≡ x ∷ y → begins_with x l ≡ true
before_head x l y e = ap (begins_with x) e ∙ same x
  where
    same : (n : ℕ) → nat_eq n n ≡ true
    same n = grind arith

-- no goto over a symbol before which no dot stands
pub no_goto : (m : Collection) (q x : ℕ) → HasStates m → q < length m.states →
    x < (bare_of m).symbols → has_before (bare_of m) (state_of m q) x ≡ false → None ≡ goto_in m q x
no_goto m q x s h l b = go (goto_in m q x) (s.leads q x h l)
  where
    go : (o : Option ℕ) → IsGoto m q x o → None ≡ o
    go None g = refl
    go (Some n) g =
        let core = s.core q h in
        let to = g core.0 core.1 in
        let zero_item : Item = record { rule = 0; dot = 0 } in
        let i = get_or (state_of m n) 0 zero_item in
        let filled = s.filled n to.0 in
        let inside : Contains (state_of m n) i = Contains-get_or (state_of m n) 0 zero_item
        filled in
        let valid = (to.1 i).0 inside in
        let from = source (bare_of m) x core.0 valid.1 refl in
        let here = (core.1 from.0).1 from.1 in
        let yes : is_before (bare_of m) x (get_or (state_of m q) here.0 from.0) ≡ true =
        ap (is_before (bare_of m) x) here.2 ∙ before_head x (after_dot (bare_of m) from.0)
        from.2.0 from.2.1 in
        let any : has_before (bare_of m) (state_of m q) x ≡ true =
        list_any_at (is_before (bare_of m) x) (state_of m q) here.0 from.0 here.1 yes in
        absurd (let f : true ≡ false = sym any ∙ b in cc)

-- the symbol after the dot of an item of a state
pub next_below : (m : Collection) (v : GrammarValue) (xs : List Item) (q k x : ℕ) (d : Item)
    (y : List ℕ) → v ≡ m.grammar → xs ≡ state_of m q → WellFormed v.bare → HasStates m →
    q < length m.states → k < length xs
    → after_dot v.bare (get_or xs k d) ≡ x ∷ y → x < (bare_of m).symbols
next_below m v xs q k x d y same items w s h l e =
    let P : ℕ → Type 0 = λ s. s < v.bare.symbols in
    let i = get_or xs k d in
    let range = subst (InRange (bare_of m)) (sym items) (s.range q h) in
    let rule : i.rule < length v.bare.rules =
    subst (λ (u : GrammarValue). i.rule < length u.bare.rules) (sym same) (range k d l).0 in
    subst (λ (u : GrammarValue). x < u.bare.symbols) same
    (All-head P x y (subst (All P) e (All-drop P i.dot (body_of v.bare i.rule)
    (w.body i.rule rule))))

no_begin : (s x : ℕ) (l y : List ℕ) → l ≡ x ∷ y → x ≢ s → begins_with s l ≡ false
no_begin s x l y e n = ap (begins_with s) e ∙ go (eqb_tells x s)
  where
    go : ((nat_eq x s ≡ true) × (x ≡ s)) ⊎ ((nat_eq x s ≡ false) × (x ≢ s)) → nat_eq x s ≡ false
    go (inl p) = absurd (n p.1)
    go (inr p) = p.0

or_true : (b : Bool) → (b || true) ≡ true
or_true true = refl
or_true false = refl

or_none : (b : Bool) → (b || false) ≡ b
or_none true = refl
or_none false = refl

module _ (m : Collection) (q t : ℕ) (xs : List Item) where
  -- the row has the gotos over the symbols before which the first n items have their dots
  abbrev pub Marked : ℕ → List (Option ℕ) → Type 0
  Marked n row = (s : ℕ) → s < length row → get_or row s None ≡
      (if has_before (bare_of m) (take n xs) (t + s) then goto_in m q (t + s) else None)

  module _ (k : ℕ) (d : Item) (l : k < length xs) where
    at : (s : ℕ) (b : Bool) → is_before (bare_of m) (t + s) (get_or xs k d) ≡ b →
        has_before (bare_of m) (take (k + 1) xs) (t + s) ≡ (has_before (bare_of m) (take k xs)
        (t + s) || b)
    at s b e = list_any_more (is_before (bare_of m) (t + s)) xs k d l ∙ ap
        (λ c. has_before (bare_of m) (take k xs) (t + s) || c) e

    skip_at : (row : List (Option ℕ)) → Marked k row → (s : ℕ) → s < length row →
        is_before (bare_of m) (t + s) (get_or xs k d) ≡ false
        → get_or row s None ≡ (if has_before (bare_of m) (take (k + 1) xs) (t + s) then goto_in m q
        (t + s) else None)
    skip_at row h s b e = h s b ∙ ap (λ c. if c then goto_in m q (t + s) else None)
        (sym (at s false e ∙ or_none (has_before (bare_of m) (take k xs) (t + s))))

    -- an item with its dot at the end, or before a token
    pub marked_end : (row : List (Option ℕ)) → Marked k row → after_dot (bare_of m)
        (get_or xs k d) ≡ [] → Marked (k + 1) row
    marked_end row h e s b = skip_at row h s b (ap (begins_with (t + s)) e)

    pub marked_token : (row : List (Option ℕ)) (x : ℕ) (y : List ℕ) → Marked k row →
        after_dot (bare_of m) (get_or xs k d) ≡ x ∷ y → x < t → Marked (k + 1) row
    marked_token row x y h e low s b = skip_at row h s b
        (no_begin (t + s) x (after_dot (bare_of m) (get_or xs k d)) y e
        (λ z. omega (arith, z, low)))

    -- an item with its dot before a nonterminal
    pub marked_more : (row : List (Option ℕ)) (x : ℕ) (y : List ℕ) → Marked k row →
        after_dot (bare_of m) (get_or xs k d) ≡ x ∷ y → t ≤ x → x - t < length row → Marked (k + 1)
        (set row (x - t) (goto_in m q x))
    marked_more row x y h e high inside s b = go (eqb_tells s (x - t))
      where
        go : ((nat_eq s (x - t) ≡ true) × (s ≡ x - t)) ⊎ ((nat_eq s (x - t) ≡ false) × (s ≢ x - t))
            → get_or (set row (x - t) (goto_in m q x)) s None ≡
            (if has_before (bare_of m) (take (k + 1) xs) (t + s) then goto_in m q
            (t + s) else None)
        go (inl p) =
            let same : x ≡ t + s = (let z = p.1 in omega (arith, z, high)) in
            let yes : is_before (bare_of m) (t + s) (get_or xs k d) ≡ true =
            ap (λ n. is_before (bare_of m) n (get_or xs k d)) (sym same) ∙ before_head x
            (after_dot (bare_of m) (get_or xs k d)) y e in
            ap (λ n. get_or (set row (x - t) (goto_in m q x)) n None) p.1 ∙ get_or-set_same row
            (x - t) (goto_in m q x) None inside ∙ ap (goto_in m q) same
            ∙ ap (λ c. if c then goto_in m q (t + s) else None)
            (sym (at s true yes ∙ or_true (has_before (bare_of m) (take k xs) (t + s))))
        go (inr p) =
            let len : s < length row = b_of b in
            get_or-set_other row (x - t) s (goto_in m q x) None p.1 ∙ skip_at row h s len
            (no_begin (t + s) x (after_dot (bare_of m) (get_or xs k d)) y e
            (λ z. p.1 (omega (arith, z, high))))
          where
            b_of : s < length (set row (x - t) (goto_in m q x)) → s < length row
            b_of h = let e = length-set row (x - t) (goto_in m q x) in omega (arith, e, h)

  -- all of them
  pub marked_whole : (row : List (Option ℕ)) → HasStates m → q < length m.states →
      xs ≡ state_of m q → t + length row ≡ (bare_of m).symbols → Marked (length xs) row
      → (s : ℕ) → s < length row → get_or row s None ≡ goto_in m q (t + s)
  marked_whole row st l e len h s b = h s b ∙ go (has_before (bare_of m) (take (length xs) xs)
      (t + s)) refl
    where
      whole : has_before (bare_of m) (take (length xs) xs) (t + s) ≡ has_before (bare_of m)
          (state_of m q) (t + s)
      whole = ap (λ (k : List Item). has_before (bare_of m) k (t + s))
          (take_all (length xs) xs (omega arith) ∙ e)

      go : (c : Bool) → has_before (bare_of m) (take (length xs) xs) (t + s) ≡ c →
          (if c then goto_in m q (t + s) else None) ≡ goto_in m q (t + s)
      go true z = refl
      go false z = no_goto m q (t + s) st l (omega (arith, len, b)) (sym whole ∙ z)

-- a number of tokens is that of an equal grammar
pub tokens_by : {n : ℕ} {v w : GrammarValue} → n ≡ v.bare.tokens → v ≡ w → n ≡ w.bare.tokens
tokens_by e f = e ∙ ap (λ (v : GrammarValue). v.bare.tokens) f

-- one more row
pub gotos_step : (m : Collection) (n : ℕ) (old new : PackedRows ℕ) (row : List (Option ℕ)) →
    length old.rows ≡ n → old.width + m.grammar.bare.tokens ≡ m.grammar.bare.symbols →
    length row ≡ old.width → IsPushed old new row
    → ((x : ℕ) → x < length row → get_or row x None ≡ goto_in m n (m.grammar.bare.tokens + x)) →
    AreGotosTo m n old.rows → AreGotosTo m (n + 1) new.rows
gotos_step m n old new row count wide len p here h q x l low high = go (side q l)
  where
    t : ℕ
    t = m.grammar.bare.tokens

    side : (q : ℕ) → q < n + 1 → (q < n) ⊎ (q ≡ n)
    side q l = grind arith

    go : (q < n) ⊎ (q ≡ n) → entry_of new.rows q (x - t) ≡ goto_in m q x
    go (inl k) = p.before q (x - t) (omega (arith, count, k)) ∙ h q x k low high
    go (inr e) =
        let inside : x - t < old.width = omega (arith, wide, low, high) in
        let entry : entry_of new.rows n (x - t) ≡ get_or row (x - t) None =
        ap (λ k. entry_of new.rows k (x - t)) (sym count) ∙ p.here (x - t) inside in
        let back : t + (x - t) ≡ x = omega (arith, low) in
        subst (λ k. entry_of new.rows k (x - t) ≡ goto_in m k x) (sym e)
        (entry ∙ here (x - t) (omega (arith, inside, len)) ∙ ap (goto_in m n) back)

-- what the packed rows answer is the goto of the automaton k, which is m
pub packed_goto : (m k : Collection) (p : PackedRows ℕ) (columns q x n : ℕ) (o : Option ℕ) → m ≡ k →
    AreGotos m p → columns ≡ m.grammar.bare.tokens → n ≡ columns → o ≡ entry_of p.rows q (x - n)
    → q < length k.states → k.grammar.bare.tokens ≤ x → x < k.grammar.bare.symbols →
    o ≡ goto_in k q x
packed_goto m k p columns q x n o same are wide width got h low high =
    let found = subst (λ j. q < length j.states → j.grammar.bare.tokens ≤ x →
    x < j.grammar.bare.symbols → entry_of p.rows q (x - j.grammar.bare.tokens) ≡ goto_in j q
    x) same (are.gotos q x) in
    let tokens : n ≡ k.grammar.bare.tokens = width ∙ wide ∙ ap (λ (j : Collection).
    j.grammar.bare.tokens) same in
    got ∙ ap (λ t. entry_of p.rows q (x - t)) tokens ∙ found h low high
