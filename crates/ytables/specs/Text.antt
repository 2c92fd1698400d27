-- Words that the texts of the report and the table share.
use Rattle.std.specs.Prelude.{ℕ, ◌-◌, ◌++◌, List, [], length, codes, decimal, flat_map}
use Rattle.std.specs.Prelude.{slice_index_or}
use Rattle.std.specs.List.{range_with_len}
use Rattle.ysymbols.specs.Grammar.{GrammarValue}

-- the printed name of a symbol, empty for a number that is no symbol
abbrev pub name_of : GrammarValue → ℕ → List ℕ
name_of v s = slice_index_or v.names s []

-- each name after a space
abbrev pub spaced_names : (ℕ → List ℕ) → List ℕ → List ℕ
spaced_names name symbols = flat_map (λ s. codes " " ++ name s) symbols

-- words, a number and a newline
abbrev pub count_line : List ℕ → ℕ → List ℕ
count_line words n = words ++ (decimal n ++ codes "\n")

-- a number, a space, a number and a newline, after some words
abbrev pub pair_line : List ℕ → ℕ → ℕ → List ℕ
pair_line words a b = words ++ (decimal a ++ (codes " " ++ (decimal b ++ codes "\n")))

-- all rules, by number
abbrev pub rules_of : GrammarValue → List ℕ
rules_of v = range_with_len 0 (length v.bare.rules)

-- all nonterminals, by number
abbrev pub nonterminals_of : GrammarValue → List ℕ
nonterminals_of v = range_with_len v.bare.tokens (v.bare.symbols - v.bare.tokens)
