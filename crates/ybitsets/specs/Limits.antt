-- The limits of automata.
use Rattle.std.specs.Prelude.{ℕ, ◌+◌, ◌*◌}
use Rattle.ysymbols.specs.Grammar.{longest_body, most_rules}

-- the most states that there may be
abbrev pub most_states : ℕ
most_states = 16384

-- the most rows of bits: one for each item in each state
abbrev pub most_rows : ℕ
most_rows = most_states * (most_rules * (longest_body + 1))
