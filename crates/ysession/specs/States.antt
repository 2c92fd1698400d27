-- The states of a stack, and what is done in the one on top (Aho, Sethi and Ullman, 4.7, the LR
-- parsing algorithm).
use Rattle.std.specs.Prelude.{ℕ, ◌≡◌, ◌≢◌, ◌+◌, ◌-◌, ◌<◌, ◌≤◌, List, [], ◌∷◌, ◌++◌, length, take}
use Rattle.std.specs.Prelude.{slice_index_or, unwrap_or, Some, Result, Ok, Err}
use Rattle.ysymbols.specs.Grammar.{end_token}
use Rattle.ylalr.specs.Collection.{bare_of, goto_in}
use Rattle.ytables.specs.declared.cell.Action.{Action}
use Rattle.ytables.specs.declared.cell.Action.TheVariants as actions
use Rattle.ytables.specs.Tables.{TablesValue as Tables, action_at}
use Rattle.ymachine.specs.declared.machine.Mode.TheVariants as modes
use Rattle.ymachine.specs.declared.machine.StepKind.{StepKind}
use Rattle.ymachine.specs.Cells.{IsSound}
use Rattle.ymachine.specs.Machine.{Configuration, lookahead, next, step_by, symbols, without_last}
use Rattle.ymachine.specs.MachineOver.{machine_over, move_of}
use Rattle.ymachine.specs.Sound.{Sound}
use Rattle.ymachine.specs.Tables.{goto_at, rule_of, state_after}

-- the state on top, or 0 where there are no states
abbrev pub top_of : List ℕ → ℕ
top_of states = slice_index_or states (length states - 1) 0

-- the states below the body of a rule
abbrev pub below : Tables → ℕ → List ℕ → List ℕ
below t rule states = without_last (length (rule_of t rule).body) states

-- the left side of a rule takes the place of its body
abbrev pub reduced : Tables → ℕ → List ℕ → List ℕ
reduced t rule states =
    below t rule states
    ++ unwrap_or (goto_at t (top_of (below t rule states)) (rule_of t rule).left) 0 ∷ []

-- the states after an action
abbrev pub acted : Tables → Action → List ℕ → List ℕ
acted t (actions.Shift to) states = states ++ to ∷ []
acted t (actions.Reduce rule) states = reduced t rule states
acted t actions.Accept states = states
acted t actions.Error states = states

-- What a parse by tables rests on: besides its soundness, that a shift carries the goto.
pub record Basis (t : Tables) : Type 0 where
  pub sound : Sound t
  pub cells : IsSound t.built.grammar.bare (machine_over t)
  pub within : (bare_of t.built).tokens ≤ (bare_of t.built).symbols
  pub shifts : (q token to : ℕ) → q < length t.built.states → token < (bare_of t.built).tokens
      → action_at t q token ≡ actions.Shift to → goto_in t.built q token ≡ Some to

-- The states are those to which the beginnings of the symbols lead, the shortest first.
pub record AreStates (t : Tables) (stack states : List ℕ) : Type 0 where
  pub many : length states ≡ length stack + 1
  pub each : (n : ℕ) → n ≤ length stack
      → state_after t (take n stack) ≡ Some (slice_index_or states n 0)

-- The parse goes on, with this token ahead, and its stack has these states.
pub record GoesOn (t : Tables) (c : Configuration) (token : ℕ) (states : List ℕ) : Type 0 where
  pub mode : c.mode ≡ modes.Running
  pub ahead : lookahead c.rest ≡ token
  pub stack : AreStates t (symbols c.stack) states

-- the step of the machine that an action is
abbrev pub step_of : Tables → Configuration → Action → StepKind × Configuration
step_of t c action = step_by (machine_over t) c (move_of action)

-- with which token ahead there is an action: the end is accepted and never shifted
abbrev pub IsFor : Action → ℕ → Type 0
IsFor (actions.Shift to) token = token ≢ end_token
IsFor (actions.Reduce rule) token = Unit {0}
IsFor actions.Accept token = token ≡ end_token
IsFor actions.Error token = Unit {0}

-- The action is the step of the machine from the configuration, and these are the states of the
-- stack that it leaves.
pub record IsStep (t : Tables) (c : Configuration) (token : ℕ) (action : Action) (new : List ℕ)
    : Type 0 where
  pub makes : next (machine_over t) c ≡ Some (step_of t c action)
  pub stack : AreStates t (symbols (step_of t c action).1.stack) new
  pub fits : IsFor action token

-- what is done with the token ahead, and the states after it; or memory ran out
abbrev pub Acts : {E : Type 0} → Tables → List ℕ → ℕ → Result Action E → List ℕ → Type 0
Acts t states token (Ok action) new =
    (c : Configuration) → GoesOn t c token states → IsStep t c token action new
Acts t states token (Err fault) new = Unit {0}
