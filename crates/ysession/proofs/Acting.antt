-- What is done in the state on top is the machine's step.
use Rattle.std.proofs.Common.{ℕ, ◌≡◌, ◌≢◌, ◌<◌, ◌≤◌, ◌==◌, Bool, true, false, if◌then◌else◌}
use Rattle.std.proofs.Common.{List, [], ◌∷◌, ◌++◌, Option, Some, None, length, refl, sym, ◌∙◌, ap}
use Rattle.std.proofs.Common.{subst, arith}
use Rattle.std.specs.Prelude.{◌&&◌, nat_lt, unwrap_or, IsSome}
use Rattle.std.proofs.lemmas.Bool.{lt-ltb, ltb-true}
use Rattle.std.proofs.lemmas.List.{map-append}
use Rattle.ysymbols.specs.Grammar.{end_token}
use Rattle.ylalr.specs.Collection.{bare_of, goto_in}
use Rattle.ytables.specs.declared.cell.Action.{Action}
use Rattle.ytables.specs.declared.cell.Action.TheVariants as actions
use Rattle.ytables.specs.Tables.{TablesValue as Tables, action_at}
use Rattle.ymachine.specs.declared.machine.StepKind.{StepKind}
use Rattle.ymachine.specs.Tree.{leaf}
use Rattle.ymachine.specs.Machine.{Machine, Configuration, Entry, Move, symbols, lookahead}
use Rattle.ymachine.specs.Machine.{entry_of, without_last, next, next_in, step_by, shift_step}
use Rattle.ymachine.specs.Machine.{reduce_step, discard_step, detect_step}
use Rattle.ymachine.specs.Tables.{rule_of, goto_at, goto_from, cell_at, cell_in, state_after}
use Rattle.ymachine.specs.MachineOver.{machine_over, move_of}
use Rattle.ymachine.proofs.Ends.{join}
use Rattle.ymachine.proofs.StepKinds.{symbols_without}
use Rattle.ysession.specs.States.{Basis, AreStates, GoesOn, IsStep, acted, below, reduced}
use Rattle.ysession.specs.States.{step_of, top_of}
use Rattle.ysession.proofs.RunStates.{walk-append, on_top, pushed, cut}

some_of : (o : Option ℕ) → IsSome o → o ≡ Some (unwrap_or o 0)
some_of None h = let bad : false ≡ true = h in cc
some_of (Some q) h = refl

-- the symbols of the stack once the token ahead is shifted
shifted_stack : (c : Configuration) (token : ℕ) (rest : List (ℕ × ℕ)) → lookahead rest ≡ token
    → token ≢ end_token → symbols (shift_step c rest).1.stack ≡ symbols c.stack ++ token ∷ []
shifted_stack c token [] e h = absurd (h (sym e))
shifted_stack c token (x ∷ rest) e h =
    map-append (λ (e : Entry). e.symbol) c.stack (entry_of x.0 (leaf x.0 x.1) ∷ [])
    ∙ ap (λ (n : ℕ). symbols c.stack ++ n ∷ []) e

-- an error leaves the stack
error_stack : (c : Configuration) (b : Bool) (rest : List (ℕ × ℕ))
    → (if b then discard_step c rest else detect_step c).1.stack ≡ c.stack
error_stack c true [] = refl
error_stack c true (x ∷ rest) = refl
error_stack c false rest = refl

module _ (t : Tables) (b : Basis t) where
  abbrev m : Machine
  m = machine_over t

  goto_is : (q symbol : ℕ) → q < length t.built.states → symbol < (bare_of t.built).symbols
      → goto_at t q symbol ≡ goto_in t.built q symbol
  goto_is q symbol h l =
      ap (λ (x : Bool). let o : Option ℕ = (if x then goto_in t.built q symbol else None) in o)
      (join (lt-ltb q (length t.built.states) h) (lt-ltb symbol (bare_of t.built).symbols l))

  -- where a cell shifts, its state is the goto
  shift_leads : (q token to : ℕ) → cell_at t q token ≡ actions.Shift to
      → goto_at t q token ≡ Some to
  shift_leads q token to e =
      by (nat_lt q (length t.built.states)) (nat_lt token (bare_of t.built).tokens) refl refl e
    where
      by : (x y : Bool) → nat_lt q (length t.built.states) ≡ x
          → nat_lt token (bare_of t.built).tokens ≡ y
          → (if x && y then action_at t q token else actions.Error) ≡ actions.Shift to
          → goto_at t q token ≡ Some to
      by true true p r e =
          let h : q < length t.built.states = ltb-true _ _ p in
          let l : token < (bare_of t.built).tokens = ltb-true _ _ r in
          let w = b.within in
          goto_is q token h (omega (arith, l, w)) ∙ b.shifts q token to h l e
      by true false p r e = cc
      by false true p r e = cc
      by false false p r e = cc

  -- what a reduction needs
  record Reduces (stack states : List ℕ) (rule : ℕ) : Type 0 where
    pub wide : length (rule_of t rule).body ≤ length stack
    pub leads : goto_at t (top_of (below t rule states)) (rule_of t rule).left
        ≡ Some (unwrap_or (goto_at t (top_of (below t rule states)) (rule_of t rule).left) 0)

  reduces : (stack states : List ℕ) (token rule : ℕ) → AreStates t stack states
      → cell_at t (top_of states) token ≡ actions.Reduce rule → Reduces stack states rule
  reduces stack states token rule a e =
      let x = b.sound.reduce stack (top_of states) token rule (on_top t stack states a) e in
      let w = length (rule_of t rule).body in
      let left = (rule_of t rule).left in
      let kept = without_last w stack in
      let c = cut t stack states a w x.1 in
      let q = top_of (below t rule states) in
      let top : state_after t kept ≡ Some q = on_top t kept (below t rule states) c in
      let to : state_after t (kept ++ left ∷ []) ≡ goto_at t q left =
      walk-append t (Some 0) kept (left ∷ []) ∙ ap (λ (o : Option ℕ). goto_from t o left) top in
      record { wide = x.1; leads = some_of (goto_at t q left) (subst IsSome to x.2) }

  module _ (c : Configuration) (token : ℕ) (states : List ℕ) (g : GoesOn t c token states) where
    top : state_after t (symbols c.stack) ≡ Some (top_of states)
    top = on_top t (symbols c.stack) states g.stack

    -- what the machine's cell says
    cell : (a : Action) → cell_at t (top_of states) token ≡ a
        → m.cell (symbols c.stack) token ≡ move_of a
    unfolding machine_over
    cell a e = ap (λ (q : Option ℕ). move_of (cell_in t q token)) top ∙ ap move_of e

    goes : (a : Action) → cell_at t (top_of states) token ≡ a → next m c ≡ Some (step_of t c a)
    unfolding next
    goes a e =
        let found : Move → Option (StepKind × Configuration) = λ x. Some (step_by m c x) in
        ap (next_in m c) g.mode
        ∙ (ap (λ (n : ℕ). found (m.cell (symbols c.stack) n)) g.ahead ∙ ap found (cell a e))

    replaced : (rule : ℕ) → cell_at t (top_of states) token ≡ actions.Reduce rule
        → AreStates t (symbols (reduce_step m c rule).1.stack) (reduced t rule states)
    unfolding machine_over
    replaced rule e =
        let x = reduces (symbols c.stack) states token rule g.stack e in
        let w = length (rule_of t rule).body in
        let left = (rule_of t rule).left in
        let kept = cut t (symbols c.stack) states g.stack w x.wide in
        let to = unwrap_or (goto_at t (top_of (below t rule states)) left) 0 in
        let shown : symbols (reduce_step m c rule).1.stack
        ≡ without_last w (symbols c.stack) ++ left ∷ [] =
        map-append (λ (e : Entry). e.symbol) (without_last w c.stack) _
        ∙ ap (λ (s : List ℕ). s ++ left ∷ []) (symbols_without w c.stack) in
        subst (λ (s : List ℕ). AreStates t s (reduced t rule states)) (sym shown)
        (pushed t (without_last w (symbols c.stack)) (below t rule states) kept left to x.leads)

    -- what is done in the state on top is the machine's step
    pub acts : (a : Action) → cell_at t (top_of states) token ≡ a
        → IsStep t c token a (acted t a states)
    acts (actions.Shift to) e =
        let other = (b.sound.shift (symbols c.stack) (top_of states) token to top e).0 in
        record {
          makes = goes (actions.Shift to) e;
          stack = subst (λ (s : List ℕ). AreStates t s (states ++ to ∷ []))
              (sym (shifted_stack c token c.rest g.ahead other))
              (pushed t (symbols c.stack) states g.stack token to
              (shift_leads (top_of states) token to e));
          fits = other;
        }
    acts (actions.Reduce rule) e = record {
      makes = goes (actions.Reduce rule) e;
      stack = replaced rule e;
      fits = tt;
    }
    acts actions.Accept e = record {
      makes = goes actions.Accept e;
      stack = g.stack;
      fits = (b.cells.accept (symbols c.stack) token (cell actions.Accept e)).0;
    }
    acts actions.Error e = record {
      makes = goes actions.Error e;
      stack = subst (λ (s : List Entry). AreStates t (symbols s) states)
          (sym (error_stack c (c.counter == 3) c.rest)) g.stack;
      fits = tt;
    }
