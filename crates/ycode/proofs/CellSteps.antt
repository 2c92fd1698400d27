-- Actions as numbers, and back.
use Rattle.std.proofs.Common.{ℕ, suc, ◌≡◌, ◌≢◌, ◌+◌, ◌-◌, ◌<◌, ◌≤◌, ◌⊎◌, inl, inr, Bool, true}
use Rattle.std.proofs.Common.{false, not}
use Rattle.std.proofs.Common.{◌&&◌, nat_eq, nat_lt, List, [], ◌∷◌, length, refl, sym, ap}
use Rattle.std.proofs.Common.{◌∙◌, subst, arith, Option, Some, None, is_some, if◌then◌else◌}
use Rattle.std.proofs.Common.{unwrap_or}
use Rattle.std.specs.List.{filter, list_any, count_by}
use Rattle.std.proofs.lemmas.Bool.Decides.{eqb_tells, leb_tells}
use Rattle.ysymbols.specs.Grammar.{ContextFree}
use Rattle.ysymbols.specs.WellFormed.{WellFormed}
use Rattle.ylalr.specs.declared.items.Item.{Item}
use Rattle.ylalr.specs.Collection.{Collection, HasStates, Guide, IsGuide, IsGoto, bare_of, state_of}
use Rattle.ylalr.specs.Collection.{goto_in}
use Rattle.ylalr.specs.Items.{start}
use Rattle.ylalr.specs.States.{start_item}
use Rattle.ytables.specs.declared.class.Class.{Class}
use Rattle.ytables.specs.declared.cell.Action.{Action}
use Rattle.ytables.specs.declared.cell.Action.TheVariants.{Shift, Reduce, Accept, Error}
use Rattle.ytables.specs.Allowed.{Allows, CellsAllow}
use Rattle.ytables.specs.Cell.{cell_of, reduce, lone, is_ban, is_beat, is_lose, is_rest, is_reduce}
use Rattle.ytables.specs.Cell.{by_default}
use Rattle.ytables.specs.Tables.{TablesValue, AreTables, has_before, shift_by, shift_of, shift_to}
use Rattle.ytables.specs.Tables.{class_in, rules_by, ready_in, cell_in, default_in}
use Rattle.ytables.specs.Tables.{action_at, default_at}
use Rattle.ybitsets.specs.Packed.{entry_of}
use Rattle.ycode.specs.Cells.{Fits, number_for, is_error, states_of, tokens_of, rules_of}
use Rattle.ycode.specs.Reading.{done_by, is_explicit}
use Rattle.ycode.specs.Targets.{beside}
use Rattle.ycode.proofs.EntrySteps.{same_yes, same_no}

pub less_yes : (a b : ℕ) → a < b → nat_lt a b ≡ true
less_yes a b h = go (leb_tells (suc a) b)
  where
    go : ((nat_lt a b ≡ true) × (suc a ≤ b)) ⊎ ((nat_lt a b ≡ false) × (b < suc a)) →
        nat_lt a b ≡ true
    go (inl p) = p.0
    go (inr p) = absurd (let l = p.1 in omega (arith, l))

pub less_no : (a b : ℕ) → b ≤ a → nat_lt a b ≡ false
less_no a b h = go (leb_tells (suc a) b)
  where
    go : ((nat_lt a b ≡ true) × (suc a ≤ b)) ⊎ ((nat_lt a b ≡ false) × (b < suc a)) →
        nat_lt a b ≡ false
    go (inl p) = absurd (let l = p.1 in omega (arith, l))
    go (inr p) = p.0

no_shift : (choice : Bool) (rules : List ℕ) (n : ℕ) → (reduce choice rules).action ≡ Shift n → ⊥
no_shift choice [] n e = cc
no_shift choice (r ∷ rules) n e = cc

-- a shift in a cell is the one that is a candidate
shift_from : (class : ℕ → Class) (shift : Option Action) (rules : List ℕ) (n : ℕ) →
    (cell_of class shift rules).action ≡ Shift n → shift ≡ Some (Shift n)
shift_from class None rules n e = absurd (no_shift _ rules n e)
shift_from class (Some s) rules n e = go (list_any (λ r. is_ban (class r)) rules)
    (list_any (λ r. is_beat (class r)) rules) e
  where
    kept : List ℕ
    kept = filter (λ r. not (is_lose (class r))) rules

    go : (b c : Bool) → (if b then lone Error true else (if c then reduce true kept else record {
      action = s;
      shift_reduce = count_by (λ r. is_rest (class r)) rules;
      reduce_reduce = 0;
      choice = nat_lt 0 (length rules);
    })).action ≡ Shift n → Some s ≡ Some (Shift n)
    go true c e = cc
    go false true e = absurd (no_shift true kept n e)
    go false false e = ap Some e

shifted : (o : Option ℕ) (n : ℕ) → shift_to o ≡ Shift n → o ≡ Some n
shifted None n e = cc
shifted (Some m) n e = cc

-- and goes where the goto leads
goto_from : (g : ContextFree) (to : ℕ → Option ℕ) (k : List Item) (t n : ℕ) →
    shift_by g to k t ≡ Some (Shift n) → to t ≡ Some n
goto_from g to k t n e = go (has_before g k t) e
  where
    at : (b : Bool) → (if b then Accept else shift_to (to t)) ≡ Shift n → to t ≡ Some n
    at true e = cc
    at false e = shifted (to t) n e

    go : (b : Bool) → (if b then Some (shift_of to t) else None) ≡ Some (Shift n) → to t ≡ Some n
    go true e = let f : shift_of to t ≡ Shift n = cc in at (nat_eq t 0) f
    go false e = cc

-- there is a state
pub some_states : (m : Collection) → HasStates m → 0 < length m.states
some_states m s = let q = s.every [] start_item (_, start) in let l = q.1 in omega arith

pub goto_below : (m : Collection) (q x n : ℕ) → HasStates m → q < length m.states →
    x < (bare_of m).symbols → goto_in m q x ≡ Some n → n < length m.states
goto_below m q x n s h l e =
    let p = s.core q h in (subst (IsGoto m q x) e (s.leads q x h l) p.0 p.1).0

by_cell : (o : Option ℕ) (a : Action) (n : ℕ) → by_default o a ≡ Shift n → a ≡ Shift n
by_cell None a n e = e
by_cell (Some r) a n e = cc

-- actions are shifts to states, and reductions by rules
pub action_fits : (v : TablesValue) → AreTables v → CellsAllow v → HasStates v.built →
    WellFormed (bare_of v.built) → (u : Guide) → IsGuide v.built u → (q t : ℕ) → q < states_of v →
    t < tokens_of v → Fits (states_of v) (rules_of v) (action_at v q t)
action_fits v tables allow s w u g q t h l = go (action_at v q t) refl
  where
    m : Collection
    m = v.built

    go : (a : Action) → action_at v q t ≡ a → Fits (states_of v) (rules_of v) a
    go (Shift n) e =
        let same = (tables u g).rows.action q t h l in
        let cell = by_cell (default_in v.built u q) (cell_in v.built u q t).action n
        (sym same ∙ e) in
        let from = shift_from (class_in v.built.grammar t) (shift_by v.built.grammar.bare
        (goto_in v.built q) (state_of v.built q) t)
        (rules_by (λ i. u.looks q i t) (ready_in v.built.grammar.bare (state_of v.built q))) n
        cell in
        let to = goto_from v.built.grammar.bare (goto_in v.built q) (state_of v.built q) t n from in
        goto_below v.built q t n s h (let z = w.within in omega (arith, z, l)) to
    go (Reduce r) e =
        let a = subst (Allows (bare_of v.built) (state_of v.built q) t) e (allow q t h l) in
        (let n = a.0 in omega (arith, n), a.1)
    go Accept e = tt
    go Error e = tt

-- the number of an action is at most that of an error
pub number_most : (s r u : ℕ) (b : Bool) (a : Action) → Fits s r a → (n : ℕ) →
    number_for s r u b a ≡ Some n → n ≤ s + r
number_most s r u b (Shift k) f n e = let z : k ≡ n = cc in omega (arith, z, f)
number_most s r u b (Reduce k) f n e = go (nat_eq u k) e
  where
    go : (c : Bool) → (if c then None else Some (s + k)) ≡ Some n → n ≤ s + r
    go true e = cc
    go false e = let z : s + k ≡ n = cc in let l = f.1 in omega (arith, z, l)
number_most s r u b Accept f n e = let z : s ≡ n = cc in omega (arith, z)
number_most s r u true Error f n e = let z : s + r ≡ n = cc in omega (arith, z)
number_most s r u false Error f n e = cc

-- a number says the action that it was made of
pub done_right : (s r u : ℕ) (b c : Bool) (a : Action) → 0 < r → Fits s r a → c ≡ is_reduce u a →
    done_by s r u c (number_for s r u b a) ≡ a
done_right s r u b c (Shift k) p f e = ap (λ x. if x then Shift k else
    (if nat_eq k s then Accept else (if nat_lt k (s + r) then Reduce (k - s) else Error)))
    (less_yes k s f)
done_right s r u b c (Reduce k) p f e = go (eqb_tells u k)
  where
    at : (x : Bool) → nat_eq u k ≡ x → done_by s r u c (if x then None else Some (s + k)) ≡
        done_by s r u c (number_for s r u b (Reduce k))
    at x h = ap (λ y. done_by s r u c (if y then None else Some (s + k))) (sym h)

    go : ((nat_eq u k ≡ true) × (u ≡ k)) ⊎ ((nat_eq u k ≡ false) × (u ≢ k)) →
        done_by s r u c (number_for s r u b (Reduce k)) ≡ Reduce k
    go (inl h) = sym (at true h.0) ∙ (ap (λ y. if y then Reduce u else Error) (e ∙ h.0) ∙
        ap Reduce h.1)
    go (inr h) = let z = f.0 in let l = f.1 in sym (at false h.0)
        ∙ (ap (λ x. if x then Shift (s + k) else (if nat_eq (s + k) s then Accept else
        (if nat_lt (s + k) (s + r) then Reduce (s + k - s) else Error)))
        (less_no (s + k) s (omega arith))
        ∙ (ap (λ x. if x then Accept else
        (if nat_lt (s + k) (s + r) then Reduce (s + k - s) else Error))
        (same_no (s + k) s (λ q. omega (arith, q, z)))
        ∙ (ap (λ x. if x then Reduce (s + k - s) else Error)
        (less_yes (s + k) (s + r) (omega (arith, l)))
        ∙ ap Reduce (let q : s + k - s ≡ k = omega arith in q))))
done_right s r u b c Accept p f e =
    ap (λ x. if x then Shift s else (if nat_eq s s then Accept else
    (if nat_lt s (s + r) then Reduce (s - s) else Error))) (less_no s s (omega arith))
    ∙ ap (λ x. if x then Accept else (if nat_lt s (s + r) then Reduce (s - s) else Error))
    (same_yes s s refl)
done_right s r u true c Error p f e =
    ap (λ x. if x then Shift (s + r) else (if nat_eq (s + r) s then Accept else
    (if nat_lt (s + r) (s + r) then Reduce (s + r - s) else Error)))
    (less_no (s + r) s (omega arith))
    ∙ (ap (λ x. if x then Accept else
    (if nat_lt (s + r) (s + r) then Reduce (s + r - s) else Error))
    (same_no (s + r) s (λ q. omega (arith, q, p)))
    ∙ ap (λ x. if x then Reduce (s + r - s) else Error) (less_no (s + r) (s + r) (omega arith)))
done_right s r u false c Error p f e = ap (λ x. if x then Reduce u else Error) e

-- an error that is told apart, and no other, has the number of an error
pub refusal_right : (s r u : ℕ) (b : Bool) (a : Action) → 0 < r → Fits s r a →
    is_explicit (s + r) (number_for s r u (is_error a && b) a) ≡ (is_error a && b)
refusal_right s r u b (Shift k) p f = same_no k (s + r) (λ q. omega (arith, q, f))
refusal_right s r u b (Reduce k) p f = go (nat_eq u k)
  where
    go : (c : Bool) → is_explicit (s + r) (if c then None else Some (s + k)) ≡ false
    go true = refl
    go false = let l = f.1 in same_no (s + k) (s + r) (λ q. omega (arith, q, l))
refusal_right s r u b Accept p f = same_no s (s + r) (λ q. omega (arith, q, p))
refusal_right s r u true Error p f = same_yes (s + r) (s + r) refl
refusal_right s r u false Error p f = refl

-- the default rule is the usual one where the set is that of consistent states
pub default_right : (o : Option ℕ) (n u : ℕ) → nat_eq n 0 ≡ is_some o →
    ((s : ℕ) → o ≡ Some s → u ≡ s) → (if nat_eq n 0 then Some u else None) ≡ o
default_right None n u e f = ap (λ b. if b then Some u else None) e
default_right (Some s) n u e f = ap (λ b. if b then Some u else None) e ∙ ap Some (f s refl)

-- a goto is read
pub goto_right : (u n : ℕ) (o : Option ℕ) → o ≡ Some n → unwrap_or (beside u o) u ≡ n
goto_right u n None e = cc
goto_right u n (Some k) e = go (eqb_tells u k)
  where
    same : k ≡ n
    same = cc

    go : ((nat_eq u k ≡ true) × (u ≡ k)) ⊎ ((nat_eq u k ≡ false) × (u ≢ k)) →
        unwrap_or (beside u (Some k)) u ≡ n
    go (inl h) = ap (λ b. unwrap_or (if b then None else Some k) u) h.0 ∙ (h.1 ∙ same)
    go (inr h) = ap (λ b. unwrap_or (if b then None else Some k) u) h.0 ∙ same

pub beside_most : (u n : ℕ) (o : Option ℕ) → beside u o ≡ Some n → o ≡ Some n
beside_most u n None e = cc
beside_most u n (Some k) e = go (nat_eq u k) e
  where
    go : (b : Bool) → (if b then None else Some k) ≡ Some n → Some k ≡ Some n
    go true e = cc
    go false e = e

-- a consistent state reduces at each token
pub consistent : (v : TablesValue) (q t r : ℕ) → default_at v q ≡ Some r →
    action_at v q t ≡ Reduce r
consistent v q t r e = ap (λ o. by_default o (unwrap_or (entry_of v.actions q t) Error)) e
