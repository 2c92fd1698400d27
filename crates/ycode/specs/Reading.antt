-- How a C parser reads its arrays: sums, comparisons and indexes.
use Rattle.std.specs.Prelude.{ℕ, ◌+◌, ◌-◌, ◌*◌, Bool, false, Option, Some, None}
use Rattle.std.specs.Prelude.{if◌then◌else◌, nat_eq, nat_lt, slice_index, unwrap_or}
use Rattle.ytables.specs.declared.cell.Action.{Action}
use Rattle.ytables.specs.declared.cell.Action.TheVariants.{Shift, Reduce, Accept, Error}
use Rattle.ycode.specs.declared.code.Code.{Code}
use Rattle.ycode.specs.Bits.{bit_of}
use Rattle.ycode.specs.Combs.{held}
use Rattle.ycode.specs.Translation.{translated}

-- what a number in a cell says to do: shifts have the numbers of states, then comes the
-- acceptance, then the reductions by their rules, and then an error
abbrev pub action_of : ℕ → ℕ → ℕ → Action
action_of states rules n =
    if nat_lt n states then Shift n
    else if nat_eq n states then Accept
    else if nat_lt n (states + rules) then Reduce (n - states)
    else Error

-- what is done where a cell has this number or none, and where the usual rule is reduced by or not
abbrev pub done_by : ℕ → ℕ → ℕ → Bool → Option ℕ → Action
done_by states rules usual member (Some n) = action_of states rules n
done_by states rules usual member None = if member then Reduce usual else Error

-- the token t is in the set of tokens at which state q makes its usual reduction
abbrev pub is_member : Code → ℕ → ℕ → Bool
is_member c q t = bit_of c.bits (slice_index c.sets q * c.span) t

-- what is done in state q at the token t
abbrev pub read_action : Code → ℕ → ℕ → Action
read_action c q t =
    done_by c.states c.rules (slice_index c.usual q) (is_member c q t) (held c.actions q t)

-- the rule that state q reduces by before a token is read
abbrev pub read_default : Code → ℕ → Option ℕ
read_default c q =
    if nat_eq (slice_index c.sets q) 0 then Some (slice_index c.usual q) else None

-- the number, where there is one, is that of an error
abbrev pub is_explicit : ℕ → Option ℕ → Bool
is_explicit error None = false
is_explicit error (Some n) = nat_eq n error

-- the cell of state q at the token t has an error of its own
abbrev pub read_refusal : Code → ℕ → ℕ → Bool
read_refusal c q t = is_explicit (c.states + c.rules) (held c.actions q t)

-- the state that state q goes to over nonterminal x, whose row is read at the column of the state; the
-- first nonterminal is 0
abbrev pub read_goto : Code → ℕ → ℕ → ℕ
read_goto c q x = unwrap_or (held c.gotos x q) (slice_index c.targets x)

-- the token with this number, or the number of tokens
abbrev pub read_token : Code → ℕ → ℕ
read_token c n = translated c.tokens c.numbers n
