-- Where the mistakes of a file stand, by the sites of its tree.
use Rattle.std.specs.Prelude.{ℕ, ◌≡◌, ◌≢◌, ◌<◌, ◌⊎◌, Bool, true, false, not, List, [], ◌∷◌, ◌++◌}
use Rattle.std.specs.Prelude.{length, map, Option, Some, None, IsSome, slice_get, take}
use Rattle.std.specs.List.{flat_map, last_or}
use Rattle.ydeclarations.specs.declared.mistake.Mistake.{Mistake}
use Rattle.ydeclarations.specs.declared.mistake.Mistake.TheVariants.{TokenLeft, Undefined}
use Rattle.ydeclarations.specs.declared.mistake.Mistake.TheVariants.{TwicePrecedence, BadNumber}
use Rattle.ydeclarations.specs.declared.mistake.Mistake.TheVariants.{BadStart, Unproductive}
use Rattle.ydeclarations.specs.declared.mistake.Mistake.TheVariants.{BadPrec}
use Rattle.ydeclarations.specs.declared.mistake.Mistake.TheVariants.{Limit}
use Rattle.ydeclarations.specs.Elaboration.{bare_of, digits_number, Listing, gives_of}
use Rattle.ydeclarations.specs.Elaboration.{is_nonterminal}
use Rattle.ydeclarations.specs.Elaboration.{is_token, listed_name, listings, option_list}
use Rattle.ydeclarations.specs.Elaboration.{own_number}
use Rattle.ydeclarations.specs.Elaboration.{said_of, symbols}
use Rattle.ydeclarations.specs.Printed.{printed_name}
use Rattle.ysymbols.specs.Forms.{Productive}
use Rattle.ysymbols.specs.Grammar.{greatest_number}
use Rattle.ysymbols.specs.Names.{Name, is_among, number_in}
use Rattle.ysyntax.specs.Sites.{digits, each, Role, Site, listed, start_word, used, prec_name}
use Rattle.ysyntax.specs.Sites.{typed, left_side}
use Rattle.ysyntax.specs.Tree.{Identifier, Tree}

-- what the sites of some kind are, each with its place
abbrev pub select : {A : Type 0} → (Role → Option A) → List Site → List (A × ℕ)
select f ss = flat_map (λ s. each (λ x. (x, s.at) ∷ []) (f s.role)) ss

-- the first site of such a role stands at the place
abbrev pub FirstAt : (Role → Type 0) → List Site → ℕ → Type 0
FirstAt P [] at = ⊥
FirstAt P (s ∷ ss) at = (P s.role × (at ≡ s.at)) ⊎ ((P s.role → ⊥) × FirstAt P ss at)

-- the places are those of all sites of such a role, in their order
abbrev pub AllAt : (Role → Type 0) → List Site → List ℕ → Type 0
AllAt P [] ps = ps ≡ []
AllAt P (s ∷ ss) ps = (P s.role × ((rest : List ℕ) × (ps ≡ s.at ∷ rest) × AllAt P ss rest))
    ⊎ ((P s.role → ⊥) × AllAt P ss ps)

-- a left side or a name after `%type` that is a token
abbrev pub is_token_left : Tree → Role → Bool
is_token_left t (typed n) = is_token t n
is_token_left t (left_side n) = is_token t n
is_token_left t _ = false

-- a name or literal in a body, after `%prec` or after `%type` that is no symbol
abbrev pub is_undefined : Tree → Role → Bool
is_undefined t (typed n) = not (is_among (symbols t) n)
is_undefined t (used i) = not (is_among (symbols t) (printed_name i))
is_undefined t (prec_name i) = not (is_among (symbols t) (printed_name i))
is_undefined t _ = false

-- a name after `%prec` that is a nonterminal
abbrev pub is_bad_prec : Tree → Role → Bool
is_bad_prec t (prec_name i) = is_nonterminal t (printed_name i)
is_bad_prec t _ = false

abbrev pub start_of : Role → Option (Unit {0})
start_of start_word = Some tt
start_of _ = None

-- the place of the last word `%start`
abbrev pub last_start : List Site → Option ℕ
last_start ss = last_or None (map (λ p. p.1) (select start_of ss))

abbrev pub listed_of : Role → Option Identifier
listed_of (listed i) = Some i
listed_of _ = None

-- the listing gives a precedence to a token to which one of those before it gives one
abbrev pub GivesSecond : List Listing → Listing → Type 0
GivesSecond before l =
    IsSome l.gives × (0 < length (said_of gives_of before (listed_name l)))

-- of listings, others before them and each with its place, the first that gives a second precedence
-- stands at the place
abbrev pub SecondAt : List Listing → List Listing → List ℕ → ℕ → Type 0
SecondAt before (l ∷ ls) (p ∷ ps) at = (GivesSecond before l × (at ≡ p))
    ⊎ ((GivesSecond before l → ⊥) × SecondAt (before ++ l ∷ []) ls ps at)
SecondAt before _ _ at = ⊥

-- the numbers that listings give, in their order
abbrev pub given_in : List Listing → List ℕ
given_in ls = flat_map (λ l. option_list (digits_number l)) ls

abbrev pub digits_of : Role → Option (List ℕ)
digits_of (digits ds) = Some ds
digits_of _ = None

-- out of range, or a second number for the token of the listing: these are before it
abbrev pub IsWrong : List Listing → Listing → ℕ → Type 0
IsWrong before l m = ((m ≡ 0) ⊎ (greatest_number < m))
    ⊎ (0 < length (said_of digits_number before (listed_name l)))

-- a listing gives the number to the token, or the token has it by itself
abbrev pub HoldsNumber : Tree → Name → ℕ → Type 0
HoldsNumber t n m = ((j : ℕ) × (l : Listing) × (slice_get (listings t) j ≡ Some l)
    × (listed_name l ≡ n) × (digits_number l ≡ Some m))
    ⊎ ((is_token t n ≡ true) × (own_number t n ≡ Some m))

-- the listing after i others gives a number that is wrong, or that another token holds too
abbrev pub GivesBad : Tree → ℕ → Type 0
GivesBad t i = (l : Listing) × (m : ℕ) × (slice_get (listings t) i ≡ Some l)
    × (digits_number l ≡ Some m) × (IsWrong (take i (listings t)) l m
    ⊎ ((n : Name) × (n ≢ listed_name l) × HoldsNumber t n m))

-- The first bad number is that of the listing after i others, and it stands at the place, where
-- the numbers stand at these places.
pub record IsFirstBad (t : Tree) (ps : List ℕ) (at : ℕ) : Type 0 where
  pub i : ℕ
  pub bad : GivesBad t i
  pub first : (j : ℕ) → j < i → GivesBad t j → ⊥
  pub place : slice_get ps (length (given_in (take i (listings t)))) ≡ Some at

-- a left side that is a symbol from which no list of tokens is derived
abbrev pub IsBarren : Tree → Role → Type 0
IsBarren t (left_side n) = (number_in (symbols t) n < length (symbols t))
    × (Productive (bare_of t) (number_in (symbols t) n) → ⊥)
IsBarren t _ = ⊥

-- the place of a mistake
abbrev pub StandsAt : Tree → List Site → Mistake → ℕ → Type 0
StandsAt t ss TokenLeft at = FirstAt (λ r. is_token_left t r ≡ true) ss at
StandsAt t ss Undefined at = FirstAt (λ r. is_undefined t r ≡ true) ss at
StandsAt t ss TwicePrecedence at =
    SecondAt [] (listings t) (map (λ p. p.1) (select listed_of ss)) at
-- the beginning of the file, if ever no number is at fault
StandsAt t ss BadNumber at = IsFirstBad t (map (λ p. p.1) (select digits_of ss)) at
    ⊎ (((i : ℕ) → GivesBad t i → ⊥) × (at ≡ 0))
StandsAt t ss BadStart at = last_start ss ≡ Some at
StandsAt t ss Unproductive at = FirstAt (λ r. IsBarren t r) ss at
StandsAt t ss BadPrec at = FirstAt (λ r. is_bad_prec t r ≡ true) ss at
-- the beginning of the file
StandsAt t ss Limit at = at ≡ 0
