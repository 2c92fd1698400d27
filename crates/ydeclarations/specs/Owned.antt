-- Tables of the numbers that tokens have by themselves.
use Rattle.std.specs.Prelude.{ℕ, ◌≡◌, ◌<◌, ◌≤◌, ◌⊎◌, ◌&&◌, not, nat_le, nat_lt, is_some, cond, List}
use Rattle.std.specs.Prelude.{length, Contains, Option, Some, None, Result, Ok, Err, option_map}
use Rattle.std.specs.Prelude.{slice_get, slice_index_or, slice_set, take, if◌then◌else◌}
use Rattle.std.specs.Global.{Vec}
use Rattle.ydeclarations.specs.declared.mistake.Mistake.{Mistake}
use Rattle.ydeclarations.specs.declared.mistake.Mistake.TheVariants as mistakes
use Rattle.ydeclarations.specs.declared.mistake.Refused.{Refused}
use Rattle.ydeclarations.specs.declared.mistake.Refused.TheVariants as refused
use Rattle.ysymbols.specs.declared.precedence.Precedence.{Precedence}
use Rattle.ydeclarations.specs.Elaboration.{Listing, first_or, said_of, digits_number}
use Rattle.ydeclarations.specs.Elaboration.{token_precedences}
use Rattle.ydeclarations.specs.Mistakes.{Holds}
use Rattle.ysyntax.specs.Tree.{Tree}
use Rattle.ysymbols.specs.Grammar.{greatest_number, number_bound}
use Rattle.ysymbols.specs.Names.{Name, number_in}
use Rattle.ydeclarations.specs.Places.{IsWrong}
use Rattle.ydeclarations.specs.Told.{SaidTwice, SoFar}

-- numbers that may be given
abbrev pub IsFit : ℕ → Type 0
IsFit m = (1 ≤ m) × (m ≤ greatest_number)

-- a number out of range is given
abbrev pub GivesUnfit : List Listing → Type 0
GivesUnfit ls = (n : Name) × (m : ℕ) × Contains (said_of digits_number ls n) m
    × ((m ≡ 0) ⊎ (greatest_number < m))

-- every number of the table is in range
abbrev pub AllFit : List (Option ℕ) → Type 0
AllFit table = (k m : ℕ) → slice_index_or table k None ≡ Some m → IsFit m

-- the table has what the listings before the rest give to the tokens, each number in range; or a
-- listing is at fault: its number is out of range, or a second one for its token
abbrev pub TellsNumbers : List Name → List Listing → List Listing → List (Option ℕ) → Option ℕ →
    Type 0
TellsNumbers ns rest whole table None = SoFar digits_number ns table rest whole × AllFit table
TellsNumbers ns rest whole table (Some i) = GivesUnfit whole ⊎ SaidTwice digits_number whole

abbrev pub keep : Option ℕ → Option ℕ → Option ℕ
keep (Some x) y = Some x
keep None y = y

-- What the table has, or else what is left for a name, is the own number.
pub record OwnSoFar (ns : List Name) (table : List (Option ℕ))
    (left own : Name → Option ℕ) : Type 0 where
  pub each : length table ≡ length ns
  pub said : (n : Name) → number_in ns n < length ns →
      keep (slice_index_or table (number_in ns n) None) (left n) ≡ own n

-- the table, with a number for a token unless it has one
abbrev pub with_number : List (Option ℕ) → ℕ → ℕ → List (Option ℕ)
with_number table k v =
    cond (nat_lt k (length table) && not (is_some (slice_index_or table k None)))
    (slice_set table k (Some v)) table

-- a number in range, or else 0
abbrev pub fit_or_0 : ℕ → ℕ
fit_or_0 m = if nat_le m greatest_number then m else 0

-- the number that a listing gives, or 0 where it is out of range
abbrev pub small_number : Listing → Option ℕ
small_number l = option_map fit_or_0 (digits_number l)

-- The table has the first number that listings give to each token, 0 for one out of range.
pub record HasFirst (ns : List Name) (table : List (Option ℕ)) (ls : List Listing) : Type 0 where
  pub each : length table ≡ length ns
  pub said : (n : Name) → number_in ns n < length ns →
      slice_index_or table (number_in ns n) None ≡ first_or (said_of small_number ls n) None

-- the listing after i others gives a number that is wrong
abbrev pub GivesWrong : List Listing → ℕ → Type 0
GivesWrong ls i = (l : Listing) × (m : ℕ) × (slice_get ls i ≡ Some l) × (digits_number l ≡ Some m)
    × IsWrong (take i ls) l m

-- of so many listings, the first that gives a wrong number is the one after so many others
abbrev pub IsFirstWrong : List Listing → ℕ → Option ℕ → Type 0
IsFirstWrong ls upto None = (j : ℕ) → j < upto → GivesWrong ls j → ⊥
IsFirstWrong ls upto (Some i) = GivesWrong ls i × ((j : ℕ) → j < i → GivesWrong ls j → ⊥)

-- the mistake is this one, and it holds; or memory ran out
abbrev pub Refuses : Tree → Mistake → Refused → Type 0
Refuses t m (refused.Mistake what at) = (what ≡ m) × Holds t m
Refuses t m refused.Memory = Unit {0}

-- there is no such mistake, or it is answered
abbrev pub Clears : {A : Type 0} → Tree → Mistake → Result A Refused → Type 0
Clears t m (Ok v) = Holds t m → ⊥
Clears t m (Err e) = Refuses t m e

-- The precedences of the tokens, or a second one for a token.
pub record ArePrecedences (t : Tree) (given : List (Option Precedence)) : Type 0 where
  pub table : given ≡ token_precedences t
  pub sound : Holds t mistakes.TwicePrecedence → ⊥

abbrev pub Precedes : Tree → Result (Vec (Option Precedence)) Refused → Type 0
Precedes t (Ok v) = ArePrecedences t v.items
Precedes t (Err e) = Refuses t mistakes.TwicePrecedence e

-- every number of the table is one that may stand there
abbrev pub AllSmall : List (Option ℕ) → Type 0
AllSmall table = (k m : ℕ) → slice_index_or table k None ≡ Some m → m < number_bound
