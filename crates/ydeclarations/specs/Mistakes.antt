-- What is wrong with a file whose syntax is right, and which mistake is answered.
use Rattle.std.specs.Prelude.{ℕ, ◌≡◌, ◌≢◌, ◌<◌, ◌≤◌, ◌⊎◌, true, false, List, [], ◌∷◌, length, map}
use Rattle.std.specs.Prelude.{Contains, Option, Some, slice_get}
use Rattle.ydeclarations.specs.declared.mistake.Mistake.{Mistake}
use Rattle.ydeclarations.specs.declared.mistake.Mistake.TheVariants.{TokenLeft, Undefined}
use Rattle.ydeclarations.specs.declared.mistake.Mistake.TheVariants.{TwicePrecedence, BadNumber}
use Rattle.ydeclarations.specs.declared.mistake.Mistake.TheVariants.{BadStart, Unproductive}
use Rattle.ydeclarations.specs.declared.mistake.Mistake.TheVariants.{BadPrec}
use Rattle.ydeclarations.specs.declared.mistake.Mistake.TheVariants.{Limit}
use Rattle.ydeclarations.specs.Elaboration.{Rule, bare_of, is_nonterminal, is_token, lefts}
use Rattle.ydeclarations.specs.Elaboration.{numbers_given, own_numbers, precedences_given, precs}
use Rattle.ydeclarations.specs.Elaboration.{rules}
use Rattle.ydeclarations.specs.Elaboration.{starts, symbols, tokens, types_of, uses}
use Rattle.ysymbols.specs.Forms.{Productive}
use Rattle.ysymbols.specs.Grammar.{greatest_number, longest_body, most_rules, most_symbols}
use Rattle.ysymbols.specs.Names.{Name, is_among}
use Rattle.ydeclarations.specs.Printed.{printed_name}
use Rattle.ysyntax.specs.Tree.{Identifier, Tree}

-- two tokens have the same number by themselves
abbrev pub Clashes : List (Option ℕ) → Type 0
Clashes own = (i : ℕ) × (j : ℕ) × (m : ℕ) × (i < j) × (slice_get own i ≡ Some (Some m))
    × (slice_get own j ≡ Some (Some m))

abbrev pub Holds : Tree → Mistake → Type 0
-- a token is a left side, or is named by `%type`
Holds t TokenLeft = (n : Name) × (is_token t n ≡ true)
    × (Contains (lefts t) n ⊎ Contains (types_of t) n)
-- a name in a body, a `%prec` or a `%type` is no symbol
Holds t Undefined = (n : Name) × (is_among (symbols t) n ≡ false)
    × (Contains (map printed_name (uses t)) n ⊎ Contains (types_of t) n)
-- a token is given a precedence twice
Holds t TwicePrecedence = (n : Name) × (2 ≤ length (precedences_given t n))
-- a number is out of range, a token is given two, or two tokens have the same
Holds t BadNumber = ((n : Name) × (m : ℕ) × Contains (numbers_given t n) m
    × ((m ≡ 0) ⊎ (greatest_number < m)))
    ⊎ (((n : Name) × (2 ≤ length (numbers_given t n)))
    ⊎ Clashes (own_numbers t))
-- `%start` stands twice, or names no nonterminal
Holds t BadStart = (2 ≤ length (starts t))
    ⊎ ((i : Identifier) × Contains (starts t) i × (is_nonterminal t (printed_name i) ≡ false))
-- a nonterminal derives no list of tokens
Holds t Unproductive = (s : ℕ) × (length (tokens t) ≤ s) × (s < length (symbols t))
    × (Productive (bare_of t) s → ⊥)
-- `%prec` names a nonterminal
Holds t BadPrec = (i : Identifier) × Contains (precs t) i × (is_nonterminal t (printed_name i) ≡
    true)
-- more symbols, rules or symbols in a body than the limits
Holds t Limit = (most_symbols < length (symbols t))
    ⊎ ((most_rules < length (rules t))
    ⊎ ((r : Rule) × Contains (rules t) r × (longest_body < length r.body)))

abbrev pub order : List Mistake
order = TokenLeft ∷ Undefined ∷ TwicePrecedence ∷ BadNumber ∷ BadStart ∷ Unproductive ∷ BadPrec
    ∷ Limit ∷ []

-- the mistake holds, and none before it in the list
abbrev pub IsFirst : Tree → List Mistake → Mistake → Type 0
IsFirst t [] m = ⊥
IsFirst t (f ∷ fs) m = ((f ≡ m) × Holds t m) ⊎ ((f ≢ m) × (Holds t f → ⊥) × IsFirst t fs m)

-- none of them holds
abbrev pub HasNone : Tree → List Mistake → Type 0
HasNone t [] = Unit {0}
HasNone t (f ∷ fs) = (Holds t f → ⊥) × HasNone t fs
