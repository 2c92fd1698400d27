-- The machine of tables: the state of a stack is the core of its symbols, and its cells say only
-- what the items of that core allow.
use Rattle.std.proofs.Common.{ℕ, ◌≡◌, ◌<◌, ◌&&◌, nat_lt, Bool, true, false, List, [], ◌∷◌, ◌++◌}
use Rattle.std.proofs.Common.{length, reverse, refl, sym, ◌∙◌, ap, subst, append_assoc, arith}
use Rattle.std.proofs.Common.{Option, Some, None, if◌then◌else◌}
use Rattle.std.specs.Prelude.{MatchOption, IsSome}
use Rattle.std.proofs.lemmas.Bool.{ltb-true, lt-ltb}
use Rattle.std.proofs.lemmas.List.{append-nil}
use Rattle.ysymbols.specs.Grammar.{ContextFree, end_token}
use Rattle.ysymbols.specs.WellFormed.{WellFormed}
use Rattle.ylalr.specs.declared.items.Item.{Item}
use Rattle.ylalr.specs.Items.{Valid, start, InCore, IsCore}
use Rattle.ylalr.specs.Collection.{HasStates, bare_of, state_of, goto_in}
use Rattle.ytables.specs.declared.cell.Action.{Action}
use Rattle.ytables.specs.declared.cell.Action.TheVariants as actions
use Rattle.ytables.specs.Allowed.{complete_of, accept_item, Allows, CellsAllow}
use Rattle.ytables.specs.Tables.{TablesValue as Tables, action_at}
use Rattle.ymachine.specs.Machine.{Move, Shift, Reduce, Accept, Error}
use Rattle.ymachine.specs.Tables.{cell_at, goto_from, walk, state_after, cell_in}
use Rattle.ymachine.specs.MachineOver.{move_of, machine_over}
use Rattle.ymachine.specs.Cells.{Expects, Ends, IsSound}
use Rattle.ymachine.proofs.Prefixes.{reverse_cons, Viable, expects_last, expects_symbol}

-- where a prefix leads: a state with exactly its core, or none where no item is valid for it
abbrev pub LeadsIn : Tables → List ℕ → Option ℕ → Type 0
LeadsIn t p to = MatchOption to ((i : Item) → InCore (bare_of t.built) p i
    → ⊥) (λ q. (q < length t.built.states) × IsCore (bare_of t.built) p (state_of t.built q))

-- what an item of the prefix's core allows to be done at a token
abbrev pub Licensed : ContextFree → List ℕ → ℕ → Move → Type 0
Licensed g p t Shift = Expects g p t
Licensed g p t (Reduce r) = (a : ℕ) × Ends g p r a
Licensed g p t Accept = (t ≡ end_token) × (a : ℕ) × Valid g p 0 1 a
Licensed g p t Error = Unit {0}

-- an allowed action is what an item of the core allows
pub licensed : (g : ContextFree) (p : List ℕ) (k : List Item) (t : ℕ) (a : Action) → IsCore g p k
    → Allows g k t a → Licensed g p t (move_of a)
licensed g p k t (actions.Shift q) c h =
    let v = (c h.0).0 h.1 in
    record {
      rule = h.0.rule;
      dot = h.0.dot;
      ahead = v.0;
      rest = h.2.0;
      valid = v.1;
      next = h.2.1;
      inside = h.3;
    }
licensed g p k t (actions.Reduce r) c h = let v = (c (complete_of g r)).0 h.2 in (v.0, (h.0, v.1))
licensed g p k t actions.Accept c h = let v = (c accept_item).0 h.1 in (h.0, v.0, v.1)
licensed g p k t actions.Error c h = tt

both : (a n b m : ℕ) → (nat_lt a n && nat_lt b m) ≡ true → (a < n) × (b < m)
both a n b m e = by (nat_lt a n) (nat_lt b m) refl refl e
  where
    by : (x y : Bool) → nat_lt a n ≡ x → nat_lt b m ≡ y → (x && y) ≡ true → (a < n) × (b < m)
    by true true e f h = (ltb-true a n e, ltb-true b m f)
    by true false e f h = cc
    by false y e f h = cc

not_both : (a n b m : ℕ) → (nat_lt a n && nat_lt b m) ≡ false → a < n → b < m → ⊥
not_both a n b m e h l = let x = lt-ltb a n h in let y = lt-ltb b m l in cc

module _ (t : Tables) (w : WellFormed (bare_of t.built)) (s : HasStates t.built) where
  abbrev g : ContextFree
  g = bare_of t.built

  -- state 0 is the state of no symbols
  begins : LeadsIn t [] (Some 0)
  begins = let e = s.every [] (record { rule = 0; dot = 0 }) (0, start) in
      (let l = e.1 in omega (arith, l), s.first)

  -- one symbol further
  pub leads_on : (x : ℕ) (p : List ℕ) (o : Option ℕ) → LeadsIn t p o
      → LeadsIn t (x ∷ p) (goto_from t o x)
  leads_on x p None h = λ i v. let e = expects_last v.1 in
      h (record { rule = e.rule; dot = e.dot }) (e.ahead, e.valid)
  leads_on x p (Some q) h = by (nat_lt q (length t.built.states) && nat_lt x g.symbols) refl
    where
      by : (b : Bool) → (nat_lt q (length t.built.states) && nat_lt x g.symbols) ≡ b
          → LeadsIn t (x ∷ p) (if b then goto_in t.built q x else None)
      by true e = s.leads q x h.0 (both q (length t.built.states) x g.symbols e).1 p h.1
      by false e =
          λ i v. not_both q (length t.built.states) x g.symbols e h.0
          (expects_symbol w (expects_last v.1))

  leads_from : (p : List ℕ) (o : Option ℕ) → LeadsIn t p o → (more : List ℕ)
      → LeadsIn t (reverse more ++ p) (walk t o more)
  leads_from p o h [] = h
  leads_from p o h (x ∷ more) =
      let e : reverse (x ∷ more) ++ p ≡ reverse more ++ x ∷ p =
      ap (λ z. z ++ p) (reverse_cons x more) ∙ append_assoc (reverse more) (x ∷ []) p in
      subst (λ z. LeadsIn t z (walk t (goto_from t o x) more)) (sym e)
      (leads_from (x ∷ p) (goto_from t o x) (leads_on x p o h) more)

  -- each stack's state has exactly the core of its symbols, or no item is valid for them
  pub leads : (stack : List ℕ) → LeadsIn t (reverse stack) (state_after t stack)
  leads stack =
      subst (λ z. LeadsIn t z (state_after t stack)) (append-nil (reverse stack))
      (leads_from [] (Some 0) begins stack)

  -- a prefix with a valid item leads somewhere
  pub leads_some : (p : List ℕ) (o : Option ℕ) → LeadsIn t p o → Viable g p → IsSome o
  leads_some p None h v = absurd (h (record { rule = v.rule; dot = v.dot }) (v.ahead, v.valid))
  leads_some p (Some q) h v = refl

module _ (t : Tables) (w : WellFormed (bare_of t.built)) (s : HasStates t.built) (c : CellsAllow t)
  where
    abbrev bare : ContextFree
    bare = bare_of t.built

    licensed_at : (p : List ℕ) (q token : ℕ) → LeadsIn t p (Some q)
        → Licensed bare p token (move_of (cell_at t q token))
    licensed_at p q token h = by (nat_lt q (length t.built.states) && nat_lt token bare.tokens) refl
      where
        by : (b : Bool) → (nat_lt q (length t.built.states) && nat_lt token bare.tokens) ≡ b
            → Licensed bare p token (move_of (if b then action_at t q token else actions.Error))
        by true e =
            let l = both q (length t.built.states) token bare.tokens e in
            licensed bare p (state_of t.built q) token (action_at t q token) h.1 (c q token l.0 l.1)
        by false e = tt

    licensed_in : (p : List ℕ) (o : Option ℕ) (token : ℕ) → LeadsIn t p o
        → Licensed bare p token (move_of (cell_in t o token))
    licensed_in p None token h = tt
    licensed_in p (Some q) token h = licensed_at p q token h

    -- the cell of each stack and token is what an item of the stack's core allows
    pub licensed_cell : (stack : List ℕ) (token : ℕ)
        → Licensed bare (reverse stack) token (move_of (cell_in t (state_after t stack) token))
    licensed_cell stack token =
        licensed_in (reverse stack) (state_after t stack) token (leads t w s stack)

    pub sound_machine : IsSound bare (machine_over t)
    unfolding machine_over
    sound_machine = record {
      rule = λ r h. refl;
      tokens = refl;
      shift = λ stack token h. subst (Licensed bare (reverse stack) token) h
          (licensed_cell stack token);
      reduce = λ stack token r h. subst (Licensed bare (reverse stack) token) h
          (licensed_cell stack token);
      accept = λ stack token h. subst (Licensed bare (reverse stack) token) h
          (licensed_cell stack token);
    }

    -- what is valid for a stack with the state q, by the cell of q
    pub licensed_state : (stack : List ℕ) (q token : ℕ) → state_after t stack ≡ Some q
        → Licensed bare (reverse stack) token (move_of (cell_at t q token))
    licensed_state stack q token e =
        licensed_at (reverse stack) q token
        (subst (LeadsIn t (reverse stack)) e (leads t w s stack))
