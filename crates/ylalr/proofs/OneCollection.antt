-- A grammar has one collection: two with right states and gotos are equal.
use Rattle.std.proofs.Common.{ℕ, zero, suc, ◌≡◌, ◌≢◌, ◌<◌, ◌≤◌, ◌⊎◌, List, [], ◌∷◌, length}
use Rattle.std.proofs.Common.{get_or, refl, sym, ◌∙◌, ap, subst, inl, inr, arith, Option, Some}
use Rattle.std.proofs.Common.{None}
use Rattle.std.proofs.Common.{MatchOption}
use Rattle.std.proofs.lemmas.Bool.{cases_lt}
use Rattle.std.proofs.lemmas.Bool.Decides.{nat_tests}
use Rattle.std.proofs.lemmas.List.Elements.{Contains-get_or}
use Rattle.ysymbols.specs.Grammar.{ContextFree, GrammarValue}
use Rattle.ysymbols.proofs.Numbers.{below_or_last}
use Rattle.ylalr.specs.declared.items.Item.{Item}
use Rattle.ylalr.specs.declared.gotos.Goto.{Goto}
use Rattle.ylalr.specs.Collection.{Collection, HasStates, goto_in, state_of}
use Rattle.ylalr.specs.Gotos.{lookup, IsAscendingRow, IsEarlier, IsFound, IsRowBelow}
use Rattle.ylalr.specs.Items.{InCore, IsCore, start}
use Rattle.ylalr.specs.Sets.{IsAscending}
use Rattle.ylalr.specs.States.{start_item}
use Rattle.ylalr.proofs.Ascending.{same_ascending}
use Rattle.ylalr.proofs.NumberSteps.{over_below}

-- ---- rows

other_symbol : (t : Goto) (row : List Goto) (x : ℕ) → t.symbol ≢ x →
    lookup (t ∷ row) x ≡ lookup row x
other_symbol t row x n = grind (arith, nat_tests)

own_symbol : (t : Goto) (row : List Goto) → lookup (t ∷ row) t.symbol ≡ Some t.state
own_symbol t row = grind (arith, nat_tests)

tail_row : (t : Goto) (row : List Goto) → IsAscendingRow (t ∷ row) → IsAscendingRow row
tail_row t row a i j d h l = a (suc i) (suc j) d (omega arith) (omega arith)

tail_below : (n : ℕ) (t : Goto) (row : List Goto) → IsRowBelow n (t ∷ row) → IsRowBelow n row
tail_below n t row f k d h = f (suc k) d (omega arith)

-- a row by symbol has nothing before its first symbol
none_before : (t : Goto) (row : List Goto) (x : ℕ) → IsAscendingRow (t ∷ row) → x < t.symbol →
    lookup (t ∷ row) x ≡ None
none_before t [] x a h = other_symbol t [] x (omega arith)
none_before t (u ∷ row) x a h =
    let l : t.symbol < u.symbol = a 0 1 t (omega arith) (omega arith) in
    other_symbol t (u ∷ row) x (omega arith) ∙ none_before u row x (tail_row t (u ∷ row) a)
    (omega arith)

none_at : (t : Goto) (row : List Goto) → IsAscendingRow (t ∷ row) → lookup row t.symbol ≡ None
none_at t [] a = refl
none_at t (u ∷ row) a = none_before u row t.symbol (tail_row t (u ∷ row) a)
    (a 0 1 t (omega arith) (omega arith))

module _ (n : ℕ) (t u : Goto) (xs ys : List Goto) (a : IsAscendingRow (t ∷ xs))
    (b : IsAscendingRow (u ∷ ys)) (c : IsRowBelow n (t ∷ xs)) (d : IsRowBelow n (u ∷ ys))
    (e : (x : ℕ) → x < n → lookup (t ∷ xs) x ≡ lookup (u ∷ ys) x) where
  first_symbol : t.symbol ≡ u.symbol
  first_symbol = go (cases_lt t.symbol u.symbol) (cases_lt u.symbol t.symbol)
    where
      go : (t.symbol < u.symbol) ⊎ (u.symbol ≤ t.symbol) → (u.symbol < t.symbol) ⊎
          (t.symbol ≤ u.symbol) → t.symbol ≡ u.symbol
      go (inl h) k =
          let f = e t.symbol (c 0 t (omega arith)) in
          let o = own_symbol t xs in
          let z = none_before u ys t.symbol b h in absurd (cc)
      go (inr h) (inl k) =
          let f = e u.symbol (d 0 u (omega arith)) in
          let o = own_symbol u ys in
          let z = none_before t xs u.symbol a k in absurd (cc)
      go (inr h) (inr k) = omega arith

  first_goto : t ≡ u
  first_goto =
      let f = e t.symbol (c 0 t (omega arith)) in
      let o = own_symbol t xs in
      let p = own_symbol u ys in
      let s = first_symbol in
      let state : t.state ≡ u.state = cc in
      λ i. record { symbol = s i; state = state i }

  rest_alike : (x : ℕ) → x < n → lookup xs x ≡ lookup ys x
  rest_alike x h = go (is_or_not t.symbol x)
    where
      is_or_not : (k x : ℕ) → (k ≡ x) ⊎ (k ≢ x)
      is_or_not k x = grind arith

      go : (t.symbol ≡ x) ⊎ (t.symbol ≢ x) → lookup xs x ≡ lookup ys x
      go (inl q) =
          let v = none_at t xs a in
          let w = none_at u ys b in
          let s = first_symbol in cc
      go (inr q) = sym (other_symbol t xs x q) ∙ e x h ∙
          other_symbol u ys x (λ z. q (first_symbol ∙ z))

-- rows by symbol that answer alike are equal
same_rows : (n : ℕ) (xs ys : List Goto) → IsAscendingRow xs → IsAscendingRow ys → IsRowBelow n xs →
    IsRowBelow n ys → ((x : ℕ) → x < n → lookup xs x ≡ lookup ys x) → xs ≡ ys
same_rows n [] [] a b c d e = refl
same_rows n [] (u ∷ ys) a b c d e =
    let f = e u.symbol (d 0 u (omega arith)) in let o = own_symbol u ys in absurd (cc)
same_rows n (t ∷ xs) [] a b c d e =
    let f = e t.symbol (c 0 t (omega arith)) in let o = own_symbol t xs in absurd (cc)
same_rows n (t ∷ xs) (u ∷ ys) a b c d e =
    let tail = same_rows n xs ys (tail_row t xs a) (tail_row u ys b) (tail_below n t xs c)
    (tail_below n u ys d) (rest_alike n t u xs ys a b c d e) in
    λ i. first_goto n t u xs ys a b c d e i ∷ tail i

-- lists of one length with the same elements are equal
same_lists : {A : Type 0} (d : A) (xs ys : List A) → length xs ≡ length ys →
    ((k : ℕ) → k < length xs → get_or xs k d ≡ get_or ys k d) → xs ≡ ys
same_lists d [] [] e f = refl
same_lists d [] (y ∷ ys) e f = absurd (omega arith)
same_lists d (x ∷ xs) [] e f = absurd (omega arith)
same_lists d (x ∷ xs) (y ∷ ys) e f = λ i. f 0 (omega arith) i ∷
    same_lists d xs ys (omega arith) (λ k h. f (suc k) (omega arith)) i

-- ---- states

same_core : (g : ContextFree) (p : List ℕ) (v w : List Item) → IsCore g p v → IsCore g p w →
    IsAscending v → IsAscending w → v ≡ w
same_core g p v w a b c d = same_ascending v w c d (λ i. (
  (λ h. (b i).1 ((a i).0 h)),
  (λ h. (a i).1 ((b i).0 h)),
))

-- there is a state
some_states : (m : Collection) → HasStates m → 0 < length m.states
some_states m a = let q = a.every [] start_item (_, start) in let l = q.1 in omega arith

-- the states below n are the same
abbrev SameTo : Collection → Collection → ℕ → Type 0
SameTo m w n = (k : ℕ) → k < n → state_of m k ≡ state_of w k

-- the goto to state k of m is in w to a state with the same items
record Mirrors (m w : Collection) (q x k : ℕ) : Type 0 where
  to : ℕ
  leads : goto_in w q x ≡ Some to
  inside : to < length w.states
  within : k < length m.states
  items : state_of m k ≡ state_of w to

-- two collections with one grammar
record AreOf (m w : Collection) : Type 0 where
  left : HasStates m
  right : HasStates w
  grammar : m.grammar ≡ w.grammar

turned : (m w : Collection) → AreOf m w → AreOf w m
turned m w o = record { left = o.right; right = o.left; grammar = sym o.grammar }

same_core_in : (m w : Collection) → AreOf m w → (p : List ℕ) (k n : ℕ) → k < length m.states →
    n < length w.states → IsCore m.grammar.bare p (state_of m k) →
    IsCore w.grammar.bare p (state_of w n) → state_of m k ≡ state_of w n
same_core_in m w o p k n h l a b = same_core m.grammar.bare p (state_of m k) (state_of w n) a
    (subst (λ (v : GrammarValue). IsCore v.bare p (state_of w n)) (sym o.grammar) b)
    (o.left.ordered k h) (o.right.ordered n l)

mirrors : (m w : Collection) → AreOf m w → (q x k : ℕ) → q < length m.states →
    q < length w.states → state_of m q ≡ state_of w q → goto_in m q x ≡ Some k → Mirrors m w q x k
mirrors m w o q x k h l same leads = go (goto_in w q x) refl
    (o.right.leads q x l over p there)
  where
    p : List ℕ
    p = (o.left.core q h).0

    core : IsCore m.grammar.bare p (state_of m q)
    core = (o.left.core q h).1

    there : IsCore w.grammar.bare p (state_of w q)
    there = subst (λ (v : GrammarValue). IsCore v.bare p (state_of w q)) o.grammar
        (subst (IsCore m.grammar.bare p) same core)

    inside : x < m.grammar.bare.symbols
    inside = over_below (get_or m.gotos q []) m.grammar.bare.symbols x k (o.left.symbols q h) leads

    over : x < w.grammar.bare.symbols
    over = subst (λ (v : GrammarValue). x < v.bare.symbols) o.grammar inside

    next : (k < length m.states) × IsCore m.grammar.bare (x ∷ p) (state_of m k)
    next = subst (λ (t : Option ℕ). MatchOption t ((i : Item) → InCore m.grammar.bare (x ∷ p) i → ⊥)
        (λ n. (n < length m.states) × IsCore m.grammar.bare (x ∷ p) (state_of m n))) leads
        (o.left.leads q x h inside p core)

    some : InCore m.grammar.bare (x ∷ p) (get_or (state_of m k) 0 start_item)
    some = (next.1 (get_or (state_of m k) 0 start_item)).0
        (Contains-get_or (state_of m k) 0 start_item (o.left.filled k next.0))

    go : (t : Option ℕ) → goto_in w q x ≡ t → MatchOption t
        ((i : Item) → InCore w.grammar.bare (x ∷ p) i → ⊥)
        (λ n. (n < length w.states) × IsCore w.grammar.bare (x ∷ p) (state_of w n)) →
        Mirrors m w q x k
    go None e z = absurd (z (get_or (state_of m k) 0 start_item)
        (subst (λ (v : GrammarValue). InCore v.bare (x ∷ p) (get_or (state_of m k) 0 start_item))
        o.grammar some))
    go (Some n) e z = record {
      to = n;
      leads = e;
      inside = z.0;
      within = next.0;
      items = same_core_in m w o (x ∷ p) k n next.0 z.0 next.1 z.1;
    }

-- states with the same items are one
one_number : (m : Collection) → HasStates m → (k n : ℕ) → k < length m.states →
    n < length m.states → state_of m k ≡ state_of m n → k ≡ n
one_number m a k n h l e =
    let c = a.core k h in a.once c.0 k n h l c.1 (subst (IsCore m.grammar.bare c.0) e c.1)

-- of two gotos one comes before the other, or they are the same
earlier_or : (q x r y : ℕ) → IsEarlier q x r y ⊎ (((q ≡ r) × (x ≡ y)) ⊎ IsEarlier r y q x)
earlier_or q x r y = go (cases_lt q r) (cases_lt r q) (cases_lt x y) (cases_lt y x)
  where
    go : (q < r) ⊎ (r ≤ q) → (r < q) ⊎ (q ≤ r) → (x < y) ⊎ (y ≤ x) → (y < x) ⊎ (x ≤ y) →
        IsEarlier q x r y ⊎ (((q ≡ r) × (x ≡ y)) ⊎ IsEarlier r y q x)
    go (inl a) b c d = inl (inl a)
    go (inr a) (inl b) c d = inr (inr (inl b))
    go (inr a) (inr b) (inl c) d = inl (inr (omega arith, c))
    go (inr a) (inr b) (inr c) (inl d) = inr (inr (inr (omega arith, d)))
    go (inr a) (inr b) (inr c) (inr d) = inr (inl (omega arith, omega arith))

module _ (m w : Collection) (o : AreOf m w) (n : ℕ) (some : 0 < n) (h : n < length m.states)
    (l : n < length w.states) (same : SameTo m w n) where
  -- the goto that finds state n of m
  f : IsFound m.gotos n
  f = o.left.numbered n some h

  -- the same goto of w
  there : Mirrors m w f.state f.symbol n
  there = mirrors m w o f.state f.symbol n (let b = f.before in omega arith)
      (let b = f.before in omega arith) (same f.state f.before) f.leads

  not_before : there.to < n → ⊥
  not_before b =
      let e = one_number m o.left n there.to h (omega arith)
      (there.items ∙ sym (same there.to b)) in
      omega arith

  -- the goto that finds state n of w
  back : IsFound w.gotos n
  back = o.right.numbered n some l

  -- the same goto of m
  here : Mirrors w m back.state back.symbol n
  here = mirrors w m (turned m w o) back.state back.symbol n (let b = back.before in omega arith)
      (let b = back.before in omega arith) (sym (same back.state back.before)) back.leads

  not_found : IsEarlier back.state back.symbol f.state f.symbol → ⊥
  not_found b =
      let d = f.first back.state back.symbol here.to b here.leads in
      let e = one_number w o.right n here.to l (omega arith) (here.items ∙ same here.to d) in
      omega arith

  not_after : n < there.to → ⊥
  not_after b = go (earlier_or f.state f.symbol back.state back.symbol)
    where
      go : IsEarlier f.state f.symbol back.state back.symbol ⊎
          (((f.state ≡ back.state) × (f.symbol ≡ back.symbol)) ⊎
          IsEarlier back.state back.symbol f.state f.symbol) → ⊥
      go (inl z) =
          let d = back.first f.state f.symbol there.to z there.leads in omega arith
      go (inr (inl z)) =
          let e : Some there.to ≡ Some n = sym there.leads ∙
          (λ i. goto_in w (z.0 i) (z.1 i)) ∙ back.leads in
          let k : there.to ≡ n = cc in omega arith
      go (inr (inr z)) = not_found z

  next_same : state_of m n ≡ state_of w n
  next_same = go (cases_lt there.to n) (cases_lt n there.to)
    where
      go : (there.to < n) ⊎ (n ≤ there.to) → (n < there.to) ⊎ (there.to ≤ n) →
          state_of m n ≡ state_of w n
      go (inl a) b = absurd (not_before a)
      go (inr a) (inl b) = absurd (not_after b)
      go (inr a) (inr b) =
          let e : there.to ≡ n = omega arith in
          subst (λ k. state_of m n ≡ state_of w k) e there.items

one_more : (m w : Collection) → AreOf m w → (n : ℕ) → suc n < length m.states →
    suc n < length w.states → SameTo m w (suc n) → SameTo m w (suc (suc n))
one_more m w o n h l below k b = go (below_or_last k (suc n) (omega arith))
  where
    go : (k < suc n) ⊎ (k ≡ suc n) → state_of m k ≡ state_of w k
    go (inl a) = below k a
    go (inr a) = subst (λ j. state_of m j ≡ state_of w j) (sym a)
        (next_same m w o (suc n) (omega arith) h l below)

same_to : (m w : Collection) → AreOf m w → (n : ℕ) → n ≤ length m.states → n ≤ length w.states →
    SameTo m w n
same_to m w o zero h l k b = absurd (omega arith)
same_to m w o (suc zero) h l k b =
    let e : 0 ≡ k = omega arith in
    subst (λ j. state_of m j ≡ state_of w j) e
    (same_core_in m w o [] 0 0 (omega arith) (omega arith) o.left.first o.right.first)
same_to m w o (suc (suc n)) h l k b = one_more m w o n (omega arith) (omega arith)
    (same_to m w o (suc n) (omega arith) (omega arith)) k b

-- neither has a state more
not_longer : (m w : Collection) → AreOf m w → length m.states < length w.states → ⊥
not_longer m w o h =
    let n = length m.states in
    let same = same_to m w o n (omega arith) (omega arith) in
    let b = o.right.numbered n (some_states m o.left) h in
    let l = b.before in
    let z = mirrors w m (turned m w o) b.state b.symbol n (omega arith) (omega arith)
    (sym (same b.state b.before)) b.leads in
    let i = z.inside in
    let e = one_number w o.right n z.to h (omega arith) (z.items ∙ same z.to z.inside) in
    omega arith

same_count : (m w : Collection) → AreOf m w → length m.states ≡ length w.states
same_count m w o = go (cases_lt (length m.states) (length w.states))
    (cases_lt (length w.states) (length m.states))
  where
    go : (length m.states < length w.states) ⊎ (length w.states ≤ length m.states) →
        (length w.states < length m.states) ⊎ (length m.states ≤ length w.states) →
        length m.states ≡ length w.states
    go (inl a) b = absurd (not_longer m w o a)
    go (inr a) (inl b) = absurd (not_longer w m (turned m w o) b)
    go (inr a) (inr b) = omega arith

module _ (m w : Collection) (o : AreOf m w) where
  same_states : (k : ℕ) → k < length m.states → state_of m k ≡ state_of w k
  same_states = same_to m w o (length m.states) (omega arith)
      (let e = same_count m w o in omega arith)

  in_both : (k : ℕ) → k < length m.states → k < length w.states
  in_both k h = let e = same_count m w o in omega arith

  -- ---- gotos

  same_goto : (q x : ℕ) → q < length m.states → (a b : Option ℕ) → goto_in m q x ≡ a →
      goto_in w q x ≡ b → a ≡ b
  same_goto q x h None None e f = refl
  same_goto q x h None (Some n) e f =
      let z = mirrors w m (turned m w o) q x n (in_both q h) h (sym (same_states q h)) f in
      let l = z.leads in absurd (cc)
  same_goto q x h (Some k) None e f =
      let z = mirrors m w o q x k h (in_both q h) (same_states q h) e in
      let l = z.leads in absurd (cc)
  same_goto q x h (Some k) (Some n) e f =
      let z = mirrors m w o q x k h (in_both q h) (same_states q h) e in
      let i : z.to ≡ n = (let l = z.leads in cc) in
      let j = one_number w o.right k z.to (in_both k z.within) z.inside
      (sym (same_states k z.within) ∙ z.items) in
      ap (λ t. Some t) (j ∙ i)

  same_row : (q : ℕ) → q < length m.gotos → get_or m.gotos q [] ≡ get_or w.gotos q []
  same_row q h =
      let c = o.left.counted in
      let k : q < length m.states = omega arith in
      same_rows m.grammar.bare.symbols (get_or m.gotos q []) (get_or w.gotos q [])
      (o.left.sorted q k) (o.right.sorted q (in_both q k)) (o.left.symbols q k)
      (subst (λ (v : GrammarValue). IsRowBelow v.bare.symbols (get_or w.gotos q []))
      (sym o.grammar) (o.right.symbols q (in_both q k)))
      (λ x l. same_goto q x k (goto_in m q x) (goto_in w q x) refl refl)

  same_gotos : m.gotos ≡ w.gotos
  same_gotos = same_lists [] m.gotos w.gotos (o.left.counted ∙ same_count m w o ∙
      sym o.right.counted) same_row

-- a grammar has one collection with right states and gotos
pub one_collection : (m w : Collection) → m.grammar ≡ w.grammar → HasStates m → HasStates w → m ≡ w
one_collection m w e a b =
    let o : AreOf m w = record { left = a; right = b; grammar = e } in
    let states = same_lists [] m.states w.states (same_count m w o) (same_states m w o) in
    let gotos = same_gotos m w o in
    λ i. record { grammar = e i; states = states i; gotos = gotos i }
