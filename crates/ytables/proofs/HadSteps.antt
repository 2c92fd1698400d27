-- Where no cell has a choice, what the items of a state and their lookaheads give is what its cell
-- says.
use Rattle.std.proofs.Common.{ℕ, suc, ◌≡◌, ◌≢◌, ◌<◌, ◌⊎◌, inl, inr, Bool, true, false, not}
use Rattle.std.proofs.Common.{◌&&◌, nat_eq}
use Rattle.std.proofs.Common.{nat_lt, List, [], ◌∷◌, length, drop, refl, sym, ap, ◌∙◌, subst, arith}
use Rattle.std.proofs.Common.{Option, Some, None, MatchOption, if◌then◌else◌}
use Rattle.std.specs.List.{Contains, filter, list_any, list_all, count_by, range_with_len}
use Rattle.std.proofs.lemmas.Bool.{eqb-true, eq-eqb, lt-ltb}
use Rattle.std.proofs.lemmas.Bool.Decides.{eqb_tells}
use Rattle.ysymbols.specs.Grammar.{ContextFree, GrammarValue, IsToken, body_of, end_token}
use Rattle.ysymbols.specs.WellFormed.{WellFormed}
use Rattle.ylalr.specs.declared.items.Item.{Item}
use Rattle.ylalr.specs.Items.{Lookahead, InCore, move}
use Rattle.ylalr.specs.Collection.{Collection, HasStates, Guide, IsGuide, bare_of, state_of}
use Rattle.ylalr.specs.Collection.{goto_in}
use Rattle.ytables.specs.declared.class.Class.{Class}
use Rattle.ytables.specs.declared.cell.Action.{Action}
use Rattle.ytables.specs.declared.cell.Action.TheVariants.{Shift, Reduce, Accept, Error}
use Rattle.ytables.specs.declared.cell.Cell.{Cell}
use Rattle.ytables.specs.Cell.{cell_of, reduce, lone, is_ban, is_beat, is_lose, is_rest, is_filled}
use Rattle.ytables.specs.Cell.{is_reduce, common, by_default}
use Rattle.ytables.specs.Tables.{after_dot, begins_with, is_empty, is_ready, has_before, ready_in}
use Rattle.ytables.specs.Tables.{is_before, shift_to, shift_of, shift_by, rules_by, class_in}
use Rattle.ytables.specs.Tables.{cell_by, row_by, default_by, tokens_of, cell_in}
use Rattle.ytables.specs.Tables.{action_in, row_choice, TablesValue, AreTables, FollowsGuide}
use Rattle.ytables.specs.Allowed.{complete_of, accept_item, ShiftsIn}
use Rattle.ytables.specs.Had.{NoChoice, CellsHave}
use Rattle.ytables.proofs.AmongSteps.{Among, contains_among, among_filter, among_map, among_any}
use Rattle.ytables.proofs.AmongSteps.{none_among, among_none, all_among, among_range, range_among}
use Rattle.ytables.proofs.RowSteps.{empty_yes}

reduce_choice : (b : Bool) (rules : List ℕ) → (reduce b rules).choice ≡ b
reduce_choice b [] = refl
reduce_choice b (r ∷ rules) = refl

module _ (class : ℕ → Class) where
  -- the cell of a shift, by its two tests and the rules that do not lose
  abbrev by_tests : Action → List ℕ → List ℕ → Bool → Bool → Cell
  by_tests s rules kept b c =
      if b then lone Error true else (if c then reduce true kept else record {
        action = s;
        shift_reduce = count_by (λ r. is_rest (class r)) rules;
        reduce_reduce = 0;
        choice = nat_lt 0 (length rules);
      })

  settled : (s : Action) (rules kept : List ℕ) (b c : Bool) →
      (by_tests s rules kept b c).choice ≡ false →
      (nat_lt 0 (length rules) ≡ false) × ((by_tests s rules kept b c).action ≡ s)
  settled s rules kept true c h = cc
  settled s rules kept false true h = let e = reduce_choice true kept in cc
  settled s rules kept false false h = (h, refl)

  -- without a choice a shift is alone, and is done
  lone_shift : (s : Action) (rules : List ℕ) → (cell_of class (Some s) rules).choice ≡ false →
      (nat_lt 0 (length rules) ≡ false) × ((cell_of class (Some s) rules).action ≡ s)
  lone_shift s rules = settled s rules (filter (λ r. not (is_lose (class r))) rules)
      (list_any (λ r. is_ban (class r)) rules) (list_any (λ r. is_beat (class r)) rules)

  -- without a choice a rule is alone, and the reduction is by it
  lone_rule : (shift : Option Action) (rules : List ℕ) (r : ℕ) →
      (cell_of class shift rules).choice ≡ false → Among r rules →
      (cell_of class shift rules).action ≡ Reduce r
  lone_rule shift [] r h a = absurd a
  lone_rule (Some s) (x ∷ rules) r h a =
      let no = (lone_shift s (x ∷ rules) h).0 in
      let yes = lt-ltb 0 (length (x ∷ rules)) (omega arith) in cc
  lone_rule None (x ∷ []) r h (inl e) = ap Reduce e
  lone_rule None (x ∷ []) r h (inr a) = absurd a
  lone_rule None (x ∷ (y ∷ rules)) r h a =
      let yes = lt-ltb 1 (length (x ∷ (y ∷ rules))) (omega arith) in cc

begins : (t : ℕ) (y : List ℕ) → begins_with t (t ∷ y) ≡ true
begins t y = eq-eqb t t refl

-- all actions are those of the common rule
common_all : (xs : List Action) (r : ℕ) (a : Action) → common xs ≡ Some r → Among a xs →
    a ≡ Reduce r
common_all [] r a e h = absurd h
common_all (Shift n ∷ xs) r a e h = cc
common_all (Reduce s ∷ xs) r a e h = go (list_all (is_reduce s) xs) refl e h
  where
    same : (a : Action) → is_reduce s a ≡ true → a ≡ Reduce s
    same (Shift n) e = cc
    same (Reduce n) e = ap Reduce (sym (eqb-true s n e))
    same Accept e = cc
    same Error e = cc

    go : (b : Bool) → list_all (is_reduce s) xs ≡ b → (if b then Some s else None) ≡ Some r →
        (Reduce s ≡ a) ⊎ Among a xs → a ≡ Reduce r
    go true k e (inl i) = let f : s ≡ r = cc in sym i ∙ ap Reduce f
    go true k e (inr i) = let f : s ≡ r = cc in
        same a (all_among (is_reduce s) a xs k i) ∙ ap Reduce f
    go false k e i = cc
common_all (Accept ∷ xs) r a e h = cc
common_all (Error ∷ xs) r a e h = cc

module _ (v : GrammarValue) (to : ℕ → Option ℕ) (looks : Item → ℕ → Bool) (k : List Item) where
  -- an item before the token
  before : (i : Item) (t : ℕ) (y : List ℕ) → Among i k → after_dot v.bare i ≡ t ∷ y →
      has_before v.bare k t ≡ true
  before i t y h e = among_any (is_before v.bare t) i k (ap (begins_with t) e ∙ begins t y) h

  -- where a state has one, it has no default rule
  no_default : (t : ℕ) → IsToken v.bare t → has_before v.bare k t ≡ true →
      default_by v to looks k ≡ None
  no_default t l e =
      let some : list_any (has_before v.bare k) (tokens_of v) ≡ true =
      among_any (has_before v.bare k) t (tokens_of v) e
      (among_range t 0 v.bare.tokens (omega arith) (omega (arith, l))) in
      ap (λ b. if b then None else common (filter is_filled (row_by v to looks k))) some

  -- the shift of a token that an item has its dot before
  shift_alone : (t : ℕ) → has_before v.bare k t ≡ true → (cell_by v to looks k t).choice ≡ false →
      (cell_by v to looks k t).action ≡ shift_of to t
  shift_alone t e h =
      let rules = rules_by (λ i. looks i t) (ready_in v.bare k) in
      let s : shift_by v.bare to k t ≡ Some (shift_of to t) =
      ap (λ b. if b then Some (shift_of to t) else None) e in
      subst (λ o. (cell_of (class_in v t) o rules).choice ≡ false →
      (cell_of (class_in v t) o rules).action ≡ shift_of to t) (sym s)
      (λ c. (lone_shift (class_in v t) (shift_of to t) rules c).1) h

  -- the same with the default rule, which the state does not have
  shift_done : (t : ℕ) → IsToken v.bare t → has_before v.bare k t ≡ true →
      (cell_by v to looks k t).choice ≡ false →
      by_default (default_by v to looks k) (cell_by v to looks k t).action ≡ shift_of to t
  shift_done t l e h =
      ap (λ o. by_default o (cell_by v to looks k t).action) (no_default t l e) ∙ shift_alone t e h

  -- a default rule is that of each filled cell
  default_all : (r s t : ℕ) → default_by v to looks k ≡ Some s → IsToken v.bare t →
      (cell_by v to looks k t).action ≡ Reduce r → Reduce s ≡ Reduce r
  default_all r s t e l h = go (list_any (has_before v.bare k) (tokens_of v)) e
    where
      here : Among (Reduce r) (row_by v to looks k)
      here = subst (λ (a : Action). Among a (row_by v to looks k)) h
          (among_map (λ t. (cell_by v to looks k t).action) t (tokens_of v)
          (among_range t 0 v.bare.tokens (omega arith) (omega (arith, l))))

      go : (b : Bool) → (if b then None else common (filter is_filled (row_by v to looks k))) ≡ Some
          s → Reduce s ≡ Reduce r
      go true e = cc
      go false e = sym (common_all (filter is_filled (row_by v to looks k)) s (Reduce r) e
          (among_filter is_filled (Reduce r) (row_by v to looks k) refl here))

  -- a complete item that looks at the token
  rule_done : (i : Item) (t : ℕ) → IsToken v.bare t → Among i k → is_ready v.bare i ≡ true →
      looks i t ≡ true → (cell_by v to looks k t).choice ≡ false →
      by_default (default_by v to looks k) (cell_by v to looks k t).action ≡ Reduce i.rule
  rule_done i t l h ready look c = go (default_by v to looks k) refl
    where
      here : Among i.rule (rules_by (λ i. looks i t) (ready_in v.bare k))
      here = among_map (λ (i : Item). i.rule) i (filter (λ i. looks i t) (ready_in v.bare k))
          (among_filter (λ i. looks i t) i (ready_in v.bare k) look
          (among_filter (is_ready v.bare) i k ready h))

      alone : (cell_by v to looks k t).action ≡ Reduce i.rule
      alone = lone_rule (class_in v t) (shift_by v.bare to k t)
          (rules_by (λ i. looks i t) (ready_in v.bare k)) i.rule c here

      go : (o : Option ℕ) → default_by v to looks k ≡ o →
          by_default o (cell_by v to looks k t).action ≡ Reduce i.rule
      go None e = alone
      go (Some s) e = default_all i.rule s t e l alone

complete_ready : (g : ContextFree) (r : ℕ) → r ≢ 0 → is_ready g (complete_of g r) ≡ true
complete_ready g r n = go (eqb_tells r 0)
  where
    end : is_empty (drop (length (body_of g r)) (body_of g r)) ≡ true
    end = empty_yes (body_of g r) (length (body_of g r)) (omega arith)

    go : ((nat_eq r 0 ≡ true) × (r ≡ 0)) ⊎ ((nat_eq r 0 ≡ false) × (r ≢ 0)) →
        is_ready g (complete_of g r) ≡ true
    go (inl p) = absurd (n p.1)
    go (inr p) =
        ap (λ b. not b && is_empty (after_dot g (complete_of g r))) p.0 ∙ end

leads_some : (P : Item → Type 0) (Q : ℕ → Type 0) (o : Option ℕ) →
    MatchOption o ((i : Item) → P i → ⊥) Q → (i : Item) → P i → (n : ℕ) × (o ≡ Some n)
leads_some P Q None h i p = absurd (h i p)
leads_some P Q (Some n) h i p = (n, refl)

module _ (m : Collection) (u : Guide) where
  -- a token that an item has its dot before leads on
  pub leads_on : WellFormed (bare_of m) → HasStates m → (q t : ℕ) → q < length m.states →
      IsToken (bare_of m) t → ShiftsIn (bare_of m) (state_of m q) t →
      (n : ℕ) × (goto_in m q t ≡ Some n)
  leads_on w s q t h l i =
      let core = s.core q h in
      let here = (core.1 i.0).0 i.1 in
      let y = i.2 in
      let next : InCore (bare_of m) (t ∷ core.0) (record { rule = i.0.rule; dot = suc i.0.dot }) =
      (here.0, move here.1 y.1 i.3) in
      leads_some (InCore (bare_of m) (t ∷ core.0)) _ (goto_in m q t)
      (s.leads q t h (let z = w.within in omega (arith, l, z)) core.0 core.1)
      (record { rule = i.0.rule; dot = suc i.0.dot }) next

  pub have_shift : WellFormed (bare_of m) → HasStates m → NoChoice m u → (q t : ℕ) →
      q < length m.states → IsToken (bare_of m) t → ShiftsIn (bare_of m) (state_of m q) t →
      (n : ℕ) × (action_in m u q t ≡ Shift n)
  have_shift w s free q t h l i =
      let k = state_of m q in
      let some = before m.grammar (goto_in m q) (u.looks q) k i.0 t i.2.0
      (contains_among i.0 k i.1) i.2.1 in
      let done = shift_done m.grammar (goto_in m q) (u.looks q) k t l some (free q t h l) in
      let n = leads_on w s q t h l i in
      (n.0, done ∙ no_end (eqb_tells t end_token) i.3 (goto_in m q t) ∙ ap shift_to n.1)
    where
      no_end : ((nat_eq t end_token ≡ true) × (t ≡ end_token)) ⊎
          ((nat_eq t end_token ≡ false) × (t ≢ end_token)) → t ≢ end_token → (o : Option ℕ) →
          (if nat_eq t end_token then Accept else shift_to o) ≡ shift_to o
      no_end (inl p) n o = absurd (n p.1)
      no_end (inr p) n o = ap (λ b. if b then Accept else shift_to o) p.0

  pub have_reduce : IsGuide m u → NoChoice m u → (q r t : ℕ) → q < length m.states →
      IsToken (bare_of m) t → r ≢ 0 →
      Lookahead (bare_of m) (state_of m q) (complete_of (bare_of m) r) t →
      action_in m u q t ≡ Reduce r
  have_reduce a free q r t h l n look =
      let k = state_of m q in
      let i = complete_of (bare_of m) r in
      rule_done m.grammar (goto_in m q) (u.looks q) k i t l
      (contains_among i k ((look.core i).1 (t, look.valid))) (complete_ready (bare_of m) r n)
      ((a.looks q i t h l).1 look) (free q t h l)

  pub have_accept : WellFormed (bare_of m) → NoChoice m u → (q : ℕ) → q < length m.states →
      Contains (state_of m q) accept_item → action_in m u q end_token ≡ Accept
  have_accept w free q h c =
      let k = state_of m q in
      let some = before m.grammar (goto_in m q) (u.looks q) k accept_item end_token []
      (contains_among accept_item k c) (ap (drop 1) w.first) in
      shift_done m.grammar (goto_in m q) (u.looks q) k end_token w.ends some
      (free q end_token h w.ends)

pub unset : (b : Bool) → not b ≡ true → b ≡ false
unset true e = cc
unset false e = refl

-- no state has a choice exactly where no cell has one
pub no_choice : (m : Collection) (u : Guide) →
    list_any (row_choice m u) (range_with_len 0 (length m.states)) ≡ false → NoChoice m u
no_choice m u e q t h l =
    none_among (λ t. (cell_in m u q t).choice) t (tokens_of m.grammar)
    (none_among (row_choice m u) q (range_with_len 0 (length m.states)) e
    (among_range q 0 (length m.states) (omega arith) (omega (arith, h))))
    (among_range t 0 m.grammar.bare.tokens (omega arith) (omega (arith, l)))

pub choice_no : (m : Collection) (u : Guide) → NoChoice m u →
    list_any (row_choice m u) (range_with_len 0 (length m.states)) ≡ false
choice_no m u free =
    among_none (row_choice m u) (range_with_len 0 (length m.states)) (λ q i.
    among_none (λ t. (cell_in m u q t).choice) (tokens_of m.grammar) (λ t j.
    free q t (let l = range_among q 0 (length m.states) i in omega (arith, l))
    (let l = range_among t 0 m.grammar.bare.tokens j in omega (arith, l))))

-- the tables of an automaton without a choice
pub cells_have : (v : TablesValue) → WellFormed (bare_of v.built) → HasStates v.built →
    (u : Guide) → IsGuide v.built u → AreTables v → v.choice ≡ false → CellsHave v
cells_have v w s u a tables e = record {
  shift = λ q t h l i. let n = have_shift m u w s free q t h l i in
      (n.0, follows.rows.action q t h l ∙ n.1);
  reduce = λ q r t h l n look. follows.rows.action q t h l ∙
      have_reduce m u a free q r t h l n look;
  accept = λ q h c. follows.rows.action q end_token h w.ends ∙ have_accept m u w free q h c;
}
  where
    m : Collection
    m = v.built

    follows : FollowsGuide v u
    follows = tables u a

    free : NoChoice m u
    free = no_choice m u (sym follows.sums.choice ∙ e)
