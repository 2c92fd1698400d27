-- The machine of tables is one of their grammar.
use Rattle.std.proofs.Common.{ℕ, suc, ◌≡◌, ◌≢◌, ◌<◌, ◌≤◌, ◌⊎◌, inl, inr, ◌&&◌, ◌||◌, nat_lt, nat_eq}
use Rattle.std.proofs.Common.{Bool, true, false, not, List, [], ◌∷◌, length, map, reverse, refl}
use Rattle.std.proofs.Common.{sym, ◌∙◌, ap, subst, arith, get_or, Option, Some, None, if◌then◌else◌}
use Rattle.std.specs.Prelude.{MatchOption, IsSome}
use Rattle.std.specs.List.{Contains, filter, list_any, count_by}
use Rattle.std.proofs.lemmas.Bool.{lt-ltb, le-ltb}
use Rattle.std.proofs.lemmas.Bool.Decides.{eqb_tells}
use Rattle.ysymbols.specs.Grammar.{ContextFree, GrammarValue, IsToken, end_token}
use Rattle.ysymbols.specs.WellFormed.{WellFormed}
use Rattle.ylalr.specs.declared.items.Item.{Item}
use Rattle.ylalr.specs.Items.{move, InCore, IsCore}
use Rattle.ylalr.specs.Collection.{HasStates, Guide, IsGuide, bare_of, state_of, goto_in}
use Rattle.ylalr.proofs.Ascending.{same_ascending}
use Rattle.ytables.specs.declared.class.Class.{Class}
use Rattle.ytables.specs.declared.cell.Action.{Action}
use Rattle.ytables.specs.declared.cell.Action.TheVariants as actions
use Rattle.ytables.specs.declared.cell.Cell.{Cell}
use Rattle.ytables.specs.Cell.{cell_of, lone, reduce, common, is_filled, is_ban, is_beat, is_lose}
use Rattle.ytables.specs.Cell.{is_rest, by_default}
use Rattle.ytables.specs.Tables.{TablesValue as Tables, AreTables, after_dot, begins_with}
use Rattle.ytables.specs.Tables.{is_before, has_before, ready_in, shift_to, shift_of, rules_by}
use Rattle.ytables.specs.Tables.{class_in, cell_by, row_by, default_by, tokens_of, action_at}
use Rattle.ymachine.specs.Machine.{Shift, Error}
use Rattle.ymachine.specs.MachineOver.{move_of, machine_over}
use Rattle.ymachine.specs.Tables.{state_after, cell_in, cell_at}
use Rattle.ymachine.specs.Headline.{IsStateOf, IsDead, AreLooks, move_by, IsMachineOf}
use Rattle.ymachine.proofs.Machines.{LeadsIn, leads}

-- an item before the token
before_item : (g : ContextFree) (t : ℕ) (k : List Item) → has_before g k t ≡ true
    → (i : Item) × Contains k i × ((y : List ℕ) × (after_dot g i ≡ t ∷ y))
before_item g t [] h = cc
before_item g t (i ∷ k) h = by (is_before g t i) refl h (λ z. before_item g t k z)
  where
    begins : (l : List ℕ) → begins_with t l ≡ true → (y : List ℕ) × (l ≡ t ∷ y)
    begins [] h = cc
    begins (x ∷ y) h = (y, same (eqb_tells x t))
      where
        same : ((nat_eq x t ≡ true) × (x ≡ t)) ⊎ ((nat_eq x t ≡ false) × (x ≢ t)) → x ∷ y ≡ t ∷ y
        same (inl p) = ap (λ z. z ∷ y) p.1
        same (inr p) = let e = p.0 in cc

    by : (b : Bool) → is_before g t i ≡ b → (b || has_before g k t) ≡ true
        → (has_before g k t ≡ true → (j : Item) × Contains k j
        × ((y : List ℕ) × (after_dot g j ≡ t ∷ y)))
        → (j : Item) × Contains (i ∷ k) j × ((y : List ℕ) × (after_dot g j ≡ t ∷ y))
    by true e h rec = (i, (0, omega arith, refl), begins (after_dot g i) e)
    by false e h rec = let r = rec h in let c = r.1 in
        (r.0, (suc c.0, (let l = c.1 in omega (arith, l)), c.2), r.2)

-- where no element passes, maps that agree on such elements are equal
same_map : (p : ℕ → Bool) (f h : ℕ → Action) → ((t : ℕ) → p t ≡ false → f t ≡ h t) → (xs : List ℕ)
    → list_any p xs ≡ false → map f xs ≡ map h xs
same_map p f h same [] e = refl
same_map p f h same (x ∷ xs) e = by (p x) refl e (λ z. same_map p f h same xs z)
  where
    by : (b : Bool) → p x ≡ b → (b || list_any p xs) ≡ false
        → (list_any p xs ≡ false → map f xs ≡ map h xs) → f x ∷ map f xs ≡ h x ∷ map h xs
    by true i e rec = cc
    by false i e rec = ap (λ z. z ∷ map f xs) (same x i) ∙ ap (λ z. h x ∷ z) (rec e)

module _ (v : GrammarValue) (looks : Item → ℕ → Bool) (k : List Item) where
  abbrev rules_at : ℕ → List ℕ
  rules_at t = rules_by (λ i. looks i t) (ready_in v.bare k)

  -- gotos don't matter for the rule of a consistent state
  same_default : (to other : ℕ → Option ℕ) → default_by v to looks k ≡ default_by v other looks k
  same_default to other = by (list_any (has_before v.bare k) (tokens_of v)) refl
    where
      same : (t : ℕ) → has_before v.bare k t ≡ false
          → (cell_by v to looks k t).action ≡ (cell_by v other looks k t).action
      same t e =
          ap (λ b. (cell_of (class_in v t) (if b then Some (shift_of to t) else None)
          (rules_at t)).action) e
          ∙ sym (ap (λ b. (cell_of (class_in v t) (if b then Some (shift_of other t) else None)
          (rules_at t)).action) e)

      by : (b : Bool) → list_any (has_before v.bare k) (tokens_of v) ≡ b
          → (if b then None else common (filter is_filled (row_by v to looks k)))
          ≡ (if b then None else common (filter is_filled (row_by v other looks k)))
      by true e = refl
      by false e =
          ap (λ row. common (filter is_filled row))
          (same_map (has_before v.bare k) (λ t. (cell_by v to looks k t).action)
          (λ t. (cell_by v other looks k t).action) same (tokens_of v) e)

-- the cell where the shift z is a candidate, by its two tests
abbrev cell_by_tests : (ℕ → Class) → List ℕ → List ℕ → Bool → Bool → Action → Cell
cell_by_tests class kept rules b c z =
    if b then lone actions.Error true
    else (if c then reduce true kept else record {
      action = z;
      shift_reduce =
          count_by (λ r. is_rest (class r)) rules;
      reduce_reduce = 0;
      choice = nat_lt 0 (length rules);
    })

-- cells whose shifts are one move are one move
same_cell : (class : ℕ → Class) (x y : Action) (rules : List ℕ) → move_of x ≡ move_of y
    → move_of (cell_of class (Some x) rules).action ≡ move_of (cell_of class (Some y) rules).action
same_cell class x y rules e =
    by (list_any (λ r. is_ban (class r)) rules) (list_any (λ r. is_beat (class r)) rules)
  where
    kept : List ℕ
    kept = filter (λ r. not (is_lose (class r))) rules

    by : (b c : Bool) → move_of (cell_by_tests class kept rules b c x).action
        ≡ move_of (cell_by_tests class kept rules b c y).action
    by true c = refl
    by false true = refl
    by false false = e

same_shift : (to : ℕ → Option ℕ) (t : ℕ) → (t ≢ end_token → IsSome (to t))
    → move_of (shift_of to t) ≡ move_of (shift_of (λ symbol. Some 0) t)
same_shift to t h = by (eqb_tells t end_token)
  where
    shifts : (o : Option ℕ) → IsSome o → move_of (shift_to o) ≡ Shift
    shifts (Some n) i = refl
    shifts None i = cc

    by : ((nat_eq t end_token ≡ true) × (t ≡ end_token))
        ⊎ ((nat_eq t end_token ≡ false) × (t ≢ end_token))
        → move_of (shift_of to t) ≡ move_of (shift_of (λ symbol. Some 0) t)
    by (inl p) =
        ap (λ b. move_of (if b then actions.Accept else shift_to (to t))) p.0
        ∙ sym (ap (λ b. move_of (if b then actions.Accept else shift_to (Some 0))) p.0)
    by (inr p) =
        ap (λ b. move_of (if b then actions.Accept else shift_to (to t))) p.0
        ∙ (shifts (to t) (h p.1) ∙ sym
        (ap (λ b. move_of (if b then actions.Accept else shift_to (Some 0))) p.0))

-- an action without its state number, by gotos that lead on wherever an item is before the token
same_move : (v : GrammarValue) (to : ℕ → Option ℕ) (looks : Item → ℕ → Bool) (k : List Item) (t : ℕ)
    → (has_before v.bare k t ≡ true → t ≢ end_token → IsSome (to t))
    → move_of (by_default (default_by v to looks k) (cell_by v to looks k t).action)
    ≡ move_by v looks k t
same_move v to looks k t h =
    ap (λ d. move_of (by_default d (cell_by v to looks k t).action))
    (same_default v looks k to (λ symbol. Some 0))
    ∙ by (default_by v (λ symbol. Some 0) looks k)
  where
    cell : (b : Bool) → has_before v.bare k t ≡ b
        → move_of (cell_of (class_in v t) (if b then Some (shift_of to t) else None)
        (rules_at v looks k t)).action
        ≡ move_of (cell_of (class_in v t) (if b then Some (shift_of (λ symbol. Some 0) t) else None)
        (rules_at v looks k t)).action
    cell true e =
        same_cell (class_in v t) (shift_of to t) (shift_of (λ symbol. Some 0) t)
        (rules_at v looks k t) (same_shift to t (h e))
    cell false e = refl

    by : (d : Option ℕ) → move_of (by_default d (cell_by v to looks k t).action)
        ≡ move_of (by_default d (cell_by v (λ symbol. Some 0) looks k t).action)
    by None = cell (has_before v.bare k t) refl
    by (Some r) = refl

module _ (t : Tables) (w : WellFormed (bare_of t.built)) (s : HasStates t.built) (u : Guide)
    (guide : IsGuide t.built u) (tables : AreTables t) where
  abbrev v : GrammarValue
  v = t.built.grammar

  -- a goto is there where an item is before the token
  has_goto : (p : List ℕ) (q token : ℕ) → q < length t.built.states
      → IsCore v.bare p (state_of t.built q) → IsToken v.bare token
      → has_before v.bare (state_of t.built q) token ≡ true → token ≢ end_token
      → IsSome (goto_in t.built q token)
  has_goto p q token l c i h n =
      let b = before_item v.bare token (state_of t.built q) h in
      let x = (c b.0).0 b.1 in
      let j : Item = record { rule = b.0.rule; dot = suc b.0.dot } in
      by (goto_in t.built q token) (s.leads q token l (let z = w.within in omega (arith, z, i)) p c)
      j (x.0, move x.1 b.2.1 n)
    where
      by : (o : Option ℕ) → MatchOption o ((i : Item) → InCore v.bare (token ∷ p) i
          → ⊥) (λ n. (n < length t.built.states) × IsCore v.bare (token ∷ p) (state_of t.built n))
          → (i : Item) → InCore v.bare (token ∷ p) i → IsSome o
      by None h i c = absurd (h i c)
      by (Some n) h i c = refl

  -- the cell of a state in range and a token
  cell_there : (p : List ℕ) (q token : ℕ) → q < length t.built.states
      → IsCore v.bare p (state_of t.built q) → IsToken v.bare token
      → move_of (cell_at t q token) ≡ move_by v (u.looks q) (state_of t.built q) token
  cell_there p q token l c i =
      ap (λ b. move_of (if b && nat_lt token v.bare.tokens then action_at t q token
      else actions.Error)) (lt-ltb q (length t.built.states) l)
      ∙ (ap (λ b. move_of (if b then action_at t q token else actions.Error))
      (lt-ltb token v.bare.tokens i)
      ∙ (ap move_of ((tables u guide).rows.action q token l i)
      ∙ same_move v (goto_in t.built q) (u.looks q) (state_of t.built q) token
      (has_goto p q token l c i)))

  cell_of_state : (stack : List ℕ) (k : List Item) (token : ℕ) (o : Option ℕ)
      → LeadsIn t (reverse stack) o → IsStateOf v.bare stack k → IsToken v.bare token
      → (looks : Item → ℕ → Bool) × AreLooks v.bare k looks
      × (move_of (cell_in t o token) ≡ move_by v looks k token)
  cell_of_state stack k token None h f i =
      let j : Item = get_or k 0 (record { rule = 0; dot = 0 }) in
      absurd (h j ((f.2 j).0 (first k f.0)))
    where
      first : (k : List Item) → 0 < length k
          → Contains k (get_or k 0 (record { rule = 0; dot = 0 }))
      first [] l = absurd (omega (arith, l))
      first (x ∷ k) l = (0, omega arith, refl)
  cell_of_state stack k token (Some q) h f i =
      let same : state_of t.built q ≡ k =
      same_ascending (state_of t.built q) k (s.ordered q h.0) f.1
      (λ j. ((λ x. (f.2 j).1 ((h.1 j).0 x)), (λ x. (h.1 j).1 ((f.2 j).0 x)))) in
      subst (λ l. (looks : Item → ℕ → Bool) × AreLooks v.bare l looks
      × (move_of (cell_at t q token) ≡ move_by v looks l token)) same
      (u.looks q, (λ j a n. guide.looks q j a h.0 n), cell_there (reverse stack) q token h.0 h.1 i)

  state_there : (stack : List ℕ) (o : Option ℕ) → LeadsIn t (reverse stack) o
      → IsDead v.bare stack ⊎ ((k : List Item) × IsStateOf v.bare stack k)
  state_there stack None h = inl h
  state_there stack (Some q) h = inr (state_of t.built q, (s.filled q h.0, s.ordered q h.0, h.1))

  dead_cell : (stack : List ℕ) (token : ℕ) (o : Option ℕ) → LeadsIn t (reverse stack) o
      → IsDead v.bare stack → move_of (cell_in t o token) ≡ Error
  dead_cell stack token None h d = refl
  dead_cell stack token (Some q) h d = let l = s.filled q h.0 in by (state_of t.built q) l h.1
    where
      by : (k : List Item) → 0 < length k → IsCore v.bare (reverse stack) k
          → move_of (cell_at t q token) ≡ Error
      by [] l c = absurd (omega (arith, l))
      by (x ∷ k) l c = absurd (d x ((c x).0 (0, omega arith, refl)))

  beyond_cell : (token : ℕ) (o : Option ℕ) → v.bare.tokens ≤ token
      → move_of (cell_in t o token) ≡ Error
  beyond_cell token None h = refl
  beyond_cell token (Some q) h = by (nat_lt q (length t.built.states))
    where
      by : (b : Bool)
          → move_of (if b && nat_lt token v.bare.tokens then action_at t q token else actions.Error)
          ≡ Error
      by true = ap (λ b. move_of (if b then action_at t q token else actions.Error))
          (le-ltb token v.bare.tokens h)
      by false = refl

  pub machine_of_grammar : IsMachineOf v (machine_over t)
  unfolding machine_over
  machine_of_grammar = record {
    state = λ stack. state_there stack (state_after t stack) (leads t w s stack);
    cell = λ stack k token f i. cell_of_state stack k token (state_after t stack)
        (leads t w s stack) f i;
    dead = λ stack token d. dead_cell stack token (state_after t stack) (leads t w s stack) d;
    beyond = λ stack token h. beyond_cell token (state_after t stack) h;
    rule = λ r h. refl;
    name = λ symbol h. refl;
    find = λ name. refl;
    tokens = refl;
  }
