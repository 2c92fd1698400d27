-- What a parser by tables rests on: a shift has its goto, a reduction its body on the stack and the
-- goto of its left side (Aho, Sethi and Ullman, 4.7, the LR parsing algorithm).
use Rattle.std.specs.Prelude.{ℕ, ◌≡◌, ◌≢◌, ◌<◌, ◌≤◌, List, [], ◌∷◌, ◌++◌, length, Some, IsSome}
use Rattle.ysymbols.specs.Grammar.{end_token}
use Rattle.ytables.specs.declared.cell.Action.TheVariants as actions
use Rattle.ytables.specs.Tables.{TablesValue as Tables}
use Rattle.ymachine.specs.Machine.{without_last}
use Rattle.ymachine.specs.Tables.{rule_of, goto_at, cell_at, state_after}

-- For each stack that has a state: where the cell shifts, the token is not the end and leads on;
-- where it reduces, it is by a rule of the grammar whose body is no longer than the stack, and the
-- left side leads on from below the body.
pub record Sound (t : Tables) : Type 0 where
  pub shift : (stack : List ℕ) (q token to : ℕ) → state_after t stack ≡ Some q
      → cell_at t q token ≡ actions.Shift to → (token ≢ end_token) × IsSome (goto_at t q token)
  pub reduce : (stack : List ℕ) (q token r : ℕ) → state_after t stack ≡ Some q
      → cell_at t q token ≡ actions.Reduce r →
      (r < length t.built.grammar.bare.rules) × (length (rule_of t r).body ≤ length stack)
      × IsSome (state_after t
      (without_last (length (rule_of t r).body) stack ++ (rule_of t r).left ∷ []))
