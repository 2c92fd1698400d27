-- Symbols by their printed names (POSIX yacc, "Lexical Structure of the Grammar"). No name has a
-- quote or a dollar sign in it.
use Rattle.std.specs.Prelude.{ℕ, suc, ◌+◌, ◌/◌, ◌%◌, Bool, not, ◌&&◌, ◌==◌, nat_le, List, [], ◌∷◌}
use Rattle.std.specs.Prelude.{◌++◌, Option, Some, None, fold, if◌then◌else◌}
use Rattle.std.specs.List.{list_any}
use Rattle.std.specs.Str.{bytes_eq}

abbrev pub Name : Type 0
Name = List ℕ

-- a literal is printed by its value: the byte itself, or a backslash and three octal digits
abbrev pub printed_literal : ℕ → Name
printed_literal v =
    if nat_le 32 v && nat_le v 126 && not (v == 39) && not (v == 92) then 39 ∷ v ∷ 39 ∷ []
    else 39 ∷ 92 ∷ (48 + v / 64) ∷ (48 + v / 8 % 8) ∷ (48 + v % 8) ∷ 39 ∷ []

-- the name is listed
abbrev pub is_among : List Name → Name → Bool
is_among ns n = list_any (bytes_eq n) ns

-- the names with one more after them, unless it is there
abbrev pub with_name : List Name → Name → List Name
with_name ns n = if is_among ns n then ns else ns ++ n ∷ []

-- the names with those of more after them, each once, in the order of their first appearance
abbrev pub with_names : List Name → List Name → List Name
with_names ns more = fold with_name ns more

-- the number of a name among names: how many others stand before it
abbrev pub number_in : List Name → Name → ℕ
number_in [] n = 0
number_in (m ∷ ns) n = if bytes_eq n m then 0 else suc (number_in ns n)

-- the number of a name, where it is there
abbrev pub find_in : List Name → Name → Option ℕ
find_in ns n = if is_among ns n then Some (number_in ns n) else None
