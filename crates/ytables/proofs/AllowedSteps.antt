-- Each action of the tables is allowed by the items of its state.
use Rattle.std.proofs.Common.{ℕ, zero, suc, ◌≡◌, ◌≢◌, ◌<◌, ◌≤◌, ◌⊎◌, inl, inr, Bool, true, false}
use Rattle.std.proofs.Common.{not, ◌&&◌, nat_eq, nat_lt, min, List, [], ◌∷◌, length}
use Rattle.std.proofs.Common.{drop, get_or, refl, sym, ap, ◌∙◌, subst, arith, length-drop, Option}
use Rattle.std.proofs.Common.{Some, None, if◌then◌else◌}
use Rattle.std.specs.List.{All, Contains, filter, list_any, list_all, count_by, fold}
use Rattle.std.proofs.lemmas.Bool.Decides.{eqb_tells}
use Rattle.std.proofs.lemmas.List.Elements.{All-head, All-drop}
use Rattle.ysymbols.specs.Grammar.{ContextFree, GrammarValue, body_of, start_of, end_token}
use Rattle.ysymbols.specs.WellFormed.{WellFormed}
use Rattle.ylalr.specs.declared.items.Item.{Item}
use Rattle.ylalr.specs.Sets.{InRange}
use Rattle.ylalr.specs.Collection.{Collection, HasStates, Guide, bare_of, state_of, goto_in}
use Rattle.ytables.specs.declared.class.Class.{Class}
use Rattle.ytables.specs.declared.cell.Action.{Action}
use Rattle.ytables.specs.declared.cell.Action.TheVariants.{Shift, Reduce, Accept, Error}
use Rattle.ytables.specs.Cell.{cell_of, reduce, lone, is_ban, is_beat, is_lose, is_rest, is_filled}
use Rattle.ytables.specs.Cell.{is_reduce, common, by_default}
use Rattle.ytables.specs.Tables.{after_dot, begins_with, is_empty, is_before, is_ready, has_before}
use Rattle.ytables.specs.Tables.{ready_in, shift_to, shift_of, shift_by, rules_by, class_in}
use Rattle.ytables.specs.Tables.{cell_by, row_by, default_by, tokens_of, action_in}
use Rattle.ytables.specs.Allowed.{complete_of, accept_item, Allows}
use Rattle.ytables.proofs.AmongSteps.{Among, among_contains, filter_among, map_among, any_among}
use Rattle.ytables.proofs.RowSteps.{complete_dot}
use Rattle.std.proofs.Math.Nat.{eq-zero-or-pos}

min_is : (a b : ℕ) → (min a b ≡ a) ⊎ (min a b ≡ b)
min_is a b = go (side a b)
  where
    side : (a b : ℕ) → (a ≤ b) ⊎ (b ≤ a)
    side a b = grind arith

    go : (a ≤ b) ⊎ (b ≤ a) → (min a b ≡ a) ⊎ (min a b ≡ b)
    go (inl h) = inl (omega arith)
    go (inr h) = inr (omega arith)

-- the least of some rules is one of them
least_among : (r : ℕ) (rules : List ℕ) → Among (fold min r rules) (r ∷ rules)
least_among r [] = inl refl
least_among r (s ∷ rules) = go (min_is r s) (least_among (min r s) rules)
  where
    least : ℕ
    least = fold min (min r s) rules

    go : (min r s ≡ r) ⊎ (min r s ≡ s) → (min r s ≡ least) ⊎ Among least rules → (r ≡ least) ⊎
        ((s ≡ least) ⊎ Among least rules)
    go (inl e) (inl h) = inl (sym e ∙ h)
    go (inr e) (inl h) = inr (inl (sym e ∙ h))
    go (inl e) (inr h) = inr (inr h)
    go (inr e) (inr h) = inr (inr h)

-- where the action of a cell comes from
abbrev From : Option Action → List ℕ → Action → Type 0
From shift rules (Shift n) = shift ≡ Some (Shift n)
From shift rules (Reduce r) = (shift ≡ Some (Reduce r)) ⊎ Among r rules
From shift rules Accept = shift ≡ Some Accept
From shift rules Error = Unit {0}

reduced_from : (shift : Option Action) (rules xs : List ℕ) (choice : Bool) →
    ((r : ℕ) → Among r xs → Among r rules) → From shift rules (reduce choice xs).action
reduced_from shift rules [] choice sub = tt
reduced_from shift rules (x ∷ xs) choice sub = inr (sub (fold min x xs) (least_among x xs))

itself_from : (rules : List ℕ) (a : Action) → From (Some a) rules a
itself_from rules (Shift n) = refl
itself_from rules (Reduce r) = inl refl
itself_from rules Accept = refl
itself_from rules Error = tt

cell_from : (class : ℕ → Class) (shift : Option Action) (rules : List ℕ) → From shift rules
    (cell_of class shift rules).action
cell_from class None rules = reduced_from None rules rules _ (λ r h. h)
cell_from class (Some s) rules = go (list_any (λ r. is_ban (class r)) rules)
    (list_any (λ r. is_beat (class r)) rules)
  where
    kept : List ℕ
    kept = filter (λ r. not (is_lose (class r))) rules

    go : (b c : Bool) → From (Some s) rules
        (if b then lone Error true else (if c then reduce true kept else record {
          action = s;
          shift_reduce = count_by (λ r. is_rest (class r)) rules;
          reduce_reduce = 0;
          choice = nat_lt 0 (length rules);
        })).action
    go true c = tt
    go false true = reduced_from (Some s) rules kept true (λ r h.
        (filter_among (λ r. not (is_lose (class r))) r rules h).1)
    go false false = itself_from rules s

pub begins_is : (t : ℕ) (l : List ℕ) → begins_with t l ≡ true → (y : List ℕ) × (l ≡ t ∷ y)
begins_is t [] h = cc
begins_is t (x ∷ y) h = (y, go (eqb_tells x t))
  where
    go : ((nat_eq x t ≡ true) × (x ≡ t)) ⊎ ((nat_eq x t ≡ false) × (x ≢ t)) → x ∷ y ≡ t ∷ y
    go (inl p) = ap (λ z. z ∷ y) p.1
    go (inr p) = let e = p.0 in cc

-- the shift is that of an item before the token
shift_has : (g : ContextFree) (to : ℕ → Option ℕ) (k : List Item) (t : ℕ) (a : Action) →
    shift_by g to k t ≡ Some a → (shift_of to t ≡ a) ×
    ((i : Item) × Among i k × ((y : List ℕ) × (after_dot g i ≡ t ∷ y)))
shift_has g to k t a e = go (has_before g k t) refl e
  where
    go : (b : Bool) → has_before g k t ≡ b → (if b then Some (shift_of to t) else None) ≡ Some a →
        (shift_of to t ≡ a) × ((i : Item) × Among i k × ((y : List ℕ) × (after_dot g i ≡ t ∷ y)))
    go true h e = let r = any_among (is_before g t) k h in
        (cc, (r.0, r.2, begins_is t (after_dot g r.0) r.1))
    go false h e = cc

no_reduce : (to : ℕ → Option ℕ) (t r : ℕ) → shift_of to t ≡ Reduce r → ⊥
no_reduce to t r e = go (nat_eq t end_token) (to t) e
  where
    go : (b : Bool) (o : Option ℕ) → (if b then Accept else shift_to o) ≡ Reduce r → ⊥
    go true o e = cc
    go false None e = cc
    go false (Some n) e = cc

accepts_end : (to : ℕ → Option ℕ) (t : ℕ) → shift_of to t ≡ Accept → t ≡ end_token
accepts_end to t e = go (eqb_tells t 0) (to t) e
  where
    go : ((nat_eq t 0 ≡ true) × (t ≡ 0)) ⊎ ((nat_eq t 0 ≡ false) × (t ≢ 0)) → (o : Option ℕ) →
        shift_of to t ≡ Accept → t ≡ 0
    go (inl p) o e = p.1
    go (inr p) o e = other (to t) (sym (ap (λ b. if b then Accept else shift_to (to t)) p.0) ∙ e)
      where
        other : (o : Option ℕ) → shift_to o ≡ Accept → t ≡ 0
        other None e = cc
        other (Some n) e = cc

shifts_other : (to : ℕ → Option ℕ) (t n : ℕ) → shift_of to t ≡ Shift n → t ≢ end_token
shifts_other to t n e z = let a : shift_of to 0 ≡ Shift n = ap (shift_of to) (sym z) ∙ e in cc

module _ (g : ContextFree) (w : WellFormed g) (k : List Item) (range : InRange g k) where
  within : (i : Item) → Among i k → (i.rule < length g.rules) × (i.dot ≤ length (body_of g i.rule))
  within i h =
      let c = among_contains i k h in
      subst (λ (j : Item). (j.rule < length g.rules) × (j.dot ≤ length (body_of g j.rule))) c.2
      (range c.0 i c.1)

  -- the dot before the end stands in rule 0 alone
  end_item : (i : Item) (y : List ℕ) → i.rule < length g.rules → after_dot g i ≡ end_token ∷ y →
      i ≡ accept_item
  end_item i y l e = go (eq-zero-or-pos i.rule)
    where
      at : (d : ℕ) → drop d (start_of g ∷ end_token ∷ []) ≡ end_token ∷ y → d ≡ 1
      at zero e = absurd (let s : start_of g ≡ 0 = ap (λ l. get_or l 0 0) e in
          let a = w.start_nonterminal in let b = w.ends in omega (arith, s, a, b))
      at (suc zero) e = refl
      at (suc (suc d)) e = absurd (let empty : List ℕ = [] in let n = ap length e in
          let m = length-drop d empty in omega (arith, n, m))

      go : (i.rule ≡ 0) ⊎ (0 < i.rule) → i ≡ accept_item
      go (inl z) =
          let body : body_of g i.rule ≡ start_of g ∷ end_token ∷ [] = ap (body_of g) z ∙ w.first in
          let dot : i.dot ≡ 1 = at i.dot (ap (drop i.dot) (sym body) ∙ e) in
          ap (λ r. record { rule = r; dot = i.dot }) z ∙ ap (λ d. record { rule = 0; dot = d }) dot
      go (inr h) =
          absurd (All-head (λ s. s ≢ end_token) end_token y (subst (All (λ s. s ≢ end_token)) e
          (All-drop (λ s. s ≢ end_token) i.dot (body_of g i.rule) (w.ended i.rule h l))) refl)

  -- a rule whose complete item looks at a token
  rule_has : (test : Item → Bool) (r : ℕ) → Among r (rules_by test (ready_in g k)) → (r ≢ 0) ×
      (r < length g.rules) × Contains k (complete_of g r)
  rule_has test r h =
      let m = map_among (λ (i : Item). i.rule) r (filter test (ready_in g k)) h in
      let i = m.0 in
      let passed = filter_among test i (ready_in g k) m.2 in
      let ready = filter_among (is_ready g) i k passed.1 in
      let here = within i ready.1 in
      let full : length (body_of g i.rule) ≤ i.dot = complete_dot g i ready.0 in
      let inside = here.1 in
      let dot : i.dot ≡ length (body_of g i.rule) = omega (arith, full, inside) in
      let whole : i ≡ complete_of g r = ap (λ d. record { rule = i.rule; dot = d }) dot ∙ ap
      (complete_of g) m.1 in (
        not_zero i r m.1 ready.0,
        subst (λ s. s < length g.rules) m.1 here.0,
        subst (Contains k) whole (among_contains i k ready.1),
      )
    where
      not_zero : (i : Item) (r : ℕ) → i.rule ≡ r → is_ready g i ≡ true → r ≢ 0
      not_zero i r e h z = go (eqb_tells i.rule 0)
        where
          go : ((nat_eq i.rule 0 ≡ true) × (i.rule ≡ 0)) ⊎
              ((nat_eq i.rule 0 ≡ false) × (i.rule ≢ 0)) → ⊥
          go (inl p) = let f : (not true && is_empty (after_dot g i)) ≡ true =
              ap (λ b. not b && is_empty (after_dot g i)) (sym p.0) ∙ h in cc
          go (inr p) = p.1 (e ∙ z)

  allow : (to : ℕ → Option ℕ) (test : Item → Bool) (t : ℕ) (a : Action) → From (shift_by g to k t)
      (rules_by test (ready_in g k)) a → Allows g k t a
  allow to test t (Shift n) h =
      let s = shift_has g to k t (Shift n) h in
      (s.1.0, among_contains s.1.0 k s.1.1, s.1.2, shifts_other to t n s.0)
  allow to test t (Reduce r) (inl h) = absurd (no_reduce to t r (shift_has g to k t (Reduce r) h).0)
  allow to test t (Reduce r) (inr h) = rule_has test r h
  allow to test t Accept h =
      let s = shift_has g to k t Accept h in
      let end = accepts_end to t s.0 in
      let y = s.1.2 in
      let item = end_item s.1.0 y.0 (within s.1.0 s.1.1).0 (y.1 ∙ ap (λ x. x ∷ y.0) end) in
      (end, subst (Contains k) item (among_contains s.1.0 k s.1.1))
  allow to test t Error h = tt

-- a common rule is that of one of the actions
common_among : (xs : List Action) (r : ℕ) → common xs ≡ Some r → Among (Reduce r) xs
common_among [] r e = cc
common_among (Shift n ∷ xs) r e = cc
common_among (Reduce s ∷ xs) r e = go (list_all (is_reduce s) xs) e
  where
    go : (b : Bool) → (if b then Some s else None) ≡ Some r → Among (Reduce r) (Reduce s ∷ xs)
    go true e = inl (let f : s ≡ r = cc in ap Reduce f)
    go false e = cc
common_among (Accept ∷ xs) r e = cc
common_among (Error ∷ xs) r e = cc

-- the default rule is that of a cell
default_from : (v : GrammarValue) (to : ℕ → Option ℕ) (looks : Item → ℕ → Bool) (k : List Item)
    (r : ℕ) → default_by v to looks k ≡ Some r → (t : ℕ) ×
    ((cell_by v to looks k t).action ≡ Reduce r)
default_from v to looks k r e = go (list_any (has_before v.bare k) (tokens_of v)) e
  where
    go : (b : Bool) → (if b then None else common (filter is_filled (row_by v to looks k))) ≡ Some
        r → (t : ℕ) × ((cell_by v to looks k t).action ≡ Reduce r)
    go true e = cc
    go false e =
        let f = filter_among is_filled (Reduce r) (row_by v to looks k)
        (common_among (filter is_filled (row_by v to looks k)) r e) in
        let m = map_among (λ t. (cell_by v to looks k t).action) (Reduce r) (tokens_of v) f.1 in
        (m.0, m.1)

-- Each action is allowed by the items of its state.
pub action_allowed : (m : Collection) (u : Guide) (q t : ℕ) → WellFormed (bare_of m) → HasStates m →
    q < length m.states → Allows (bare_of m) (state_of m q) t (action_in m u q t)
action_allowed m u q t w s h = go (default_by v to looks k) refl
  where
    v : GrammarValue
    v = m.grammar

    k : List Item
    k = state_of m q

    to : ℕ → Option ℕ
    to = goto_in m q

    looks : Item → ℕ → Bool
    looks = u.looks q

    by_cell : (t : ℕ) → Allows v.bare k t (cell_by v to looks k t).action
    by_cell t = allow v.bare w k (s.range q h) to (λ i. looks i t) t (cell_by v to looks k t).action
        (cell_from (class_in v t) (shift_by v.bare to k t)
        (rules_by (λ i. looks i t) (ready_in v.bare k)))

    go : (o : Option ℕ) → default_by v to looks k ≡ o → Allows v.bare k t
        (by_default o (cell_by v to looks k t).action)
    go None e = by_cell t
    go (Some r) e =
        let d = default_from v to looks k r e in
        subst (Allows v.bare k d.0) d.1 (by_cell d.0)
