-- The cell of a state and a token: what is done there, and which conflicts it counts (POSIX yacc,
-- "Conflicts").
use Rattle.std.specs.Prelude.{ℕ, Bool, true, false, not, List, [], ◌∷◌, length, min, Option, Some}
use Rattle.std.specs.Prelude.{None, if◌then◌else◌, nat_lt, nat_eq}
use Rattle.std.specs.List.{filter, list_any, list_all, count_by, fold}
use Rattle.ysymbols.specs.declared.precedence.Precedence.{Precedence}
use Rattle.ysymbols.specs.declared.precedence.Associativity.{Associativity}
use Rattle.ysymbols.specs.declared.precedence.Associativity.TheVariants.{Left, Right, Nonassoc}
use Rattle.ytables.specs.declared.class.Class.{Class}
use Rattle.ytables.specs.declared.class.Class.TheVariants.{Beat, Lose, Ban, Rest}
use Rattle.ytables.specs.declared.cell.Action.{Action}
use Rattle.ytables.specs.declared.cell.Action.TheVariants.{Shift, Reduce, Accept, Error}
use Rattle.ytables.specs.declared.cell.Cell.{Cell}

-- which of two equal levels wins
abbrev pub class_of_kind : Associativity → Class
class_of_kind Left = Beat
class_of_kind Right = Lose
class_of_kind Nonassoc = Ban

-- a rule against the shift of a token, by the precedences of the token and of the rule
abbrev pub class_of : Option Precedence → Option Precedence → Class
class_of None rule = Rest
class_of (Some token) None = Rest
class_of (Some token) (Some rule) =
    if nat_lt token.level rule.level then Beat else if nat_lt rule.level token.level then Lose else
    class_of_kind token.kind

-- the rule beats the shift
abbrev pub is_beat : Class → Bool
is_beat Beat = true
is_beat Lose = false
is_beat Ban = false
is_beat Rest = false

-- the rule loses to the shift
abbrev pub is_lose : Class → Bool
is_lose Beat = false
is_lose Lose = true
is_lose Ban = false
is_lose Rest = false

-- neither is allowed
abbrev pub is_ban : Class → Bool
is_ban Beat = false
is_ban Lose = false
is_ban Ban = true
is_ban Rest = false

-- a precedence is missing
abbrev pub is_rest : Class → Bool
is_rest Beat = false
is_rest Lose = false
is_rest Ban = false
is_rest Rest = true

-- a cell that counts nothing
abbrev pub lone : Action → Bool → Cell
lone action choice = record {
  action = action;
  shift_reduce = 0;
  reduce_reduce = 0;
  choice = choice;
}

-- reduce by the least rule; each further one counts as a conflict
abbrev pub reduce : Bool → List ℕ → Cell
reduce choice [] = lone Error choice
reduce choice (r ∷ rules) = record {
  action = Reduce (fold min r rules);
  shift_reduce = 0;
  reduce_reduce = length rules;
  choice = choice;
}

-- The cell where the shift is a candidate or not and these are the rules whose complete items look
-- at the token.
abbrev pub cell_of : (ℕ → Class) → Option Action → List ℕ → Cell
cell_of class None rules = reduce (nat_lt 1 (length rules)) rules
cell_of class (Some shift) rules =
    if list_any (λ r. is_ban (class r)) rules then lone Error true
    else if list_any (λ r. is_beat (class r)) rules then reduce true
    (filter (λ r. not (is_lose (class r))) rules)
    else record {
      action = shift;
      shift_reduce = count_by (λ r. is_rest (class r)) rules;
      reduce_reduce = 0;
      choice = nat_lt 0 (length rules);
    }

-- an action that is no error
abbrev pub is_filled : Action → Bool
is_filled (Shift n) = true
is_filled (Reduce r) = true
is_filled Accept = true
is_filled Error = false

-- the action reduces by rule r
abbrev pub is_reduce : ℕ → Action → Bool
is_reduce r (Shift n) = false
is_reduce r (Reduce s) = nat_eq r s
is_reduce r Accept = false
is_reduce r Error = false

-- the rule by which all of these actions reduce, where there is at least one
abbrev pub common : List Action → Option ℕ
common [] = None
common (Shift n ∷ rest) = None
common (Reduce r ∷ rest) = if list_all (is_reduce r) rest then Some r else None
common (Accept ∷ rest) = None
common (Error ∷ rest) = None

-- a default rule goes before the cell's own action
abbrev pub by_default : Option ℕ → Action → Action
by_default None action = action
by_default (Some r) action = Reduce r
