-- Tables of what the listings say of the tokens, by number.
use Rattle.std.specs.Prelude.{ℕ, ◌≡◌, ◌<◌, ◌≤◌, true, List, [], ◌++◌, length, map, Option, None}
use Rattle.std.specs.Prelude.{Result, Ok, Err}
use Rattle.std.specs.Prelude.{slice_index_or}
use Rattle.std.specs.Global.{Vec}
use Rattle.ydeclarations.specs.declared.mistake.Mistake.{Mistake}
use Rattle.ydeclarations.specs.declared.mistake.Mistake.TheVariants as mistakes
use Rattle.ydeclarations.specs.declared.mistake.Refused.{Refused}
use Rattle.ydeclarations.specs.declared.mistake.Refused.TheVariants as refused
use Rattle.ysymbols.specs.declared.precedence.Precedence.{Precedence}
use Rattle.ydeclarations.specs.Elaboration.{Listing, listed_name, option_list, said_of, gives_of}
use Rattle.ydeclarations.specs.Places.{SecondAt}
use Rattle.ysymbols.specs.Names.{Name, is_among, number_in}

-- What the table says and the rest of the listings is what all of them say.
pub record SoFar {A : Type 0} (f : Listing → Option A) (ns : List Name) (table : List (Option A))
    (rest whole : List Listing) : Type 0 where
  pub each : length table ≡ length ns
  pub said : (n : Name) → number_in ns n < length ns →
      option_list (slice_index_or table (number_in ns n) None) ++ said_of f rest n
      ≡ said_of f whole n

-- The table says what the listings say: nothing or one thing of each token.
abbrev pub IsTold : {A : Type 0} → (Listing → Option A) → List Name → List Listing →
    List (Option A) → Type 0
IsTold f ns ls table = SoFar f ns table [] ls

-- two things are said of a token
abbrev pub SaidTwice : {A : Type 0} → (Listing → Option A) → List Listing → Type 0
SaidTwice f ls = (n : Name) × (2 ≤ length (said_of f ls n))

abbrev pub IsTwicePrecedence : Mistake → List Listing → Type 0
IsTwicePrecedence mistakes.TwicePrecedence ls = SaidTwice gives_of ls
IsTwicePrecedence _ ls = ⊥

-- each listed token is one of these names
abbrev pub AreAmong : List Name → List Listing → Type 0
AreAmong ns ls = (n : Name) → is_among (map listed_name ls) n ≡ true → number_in ns n < length ns

-- a mistake is at the place of the first listing that gives a second precedence
abbrev pub IsSecond : List Listing → List ℕ → Refused → Type 0
IsSecond ls ps (refused.Mistake what at) = SecondAt [] ls ps at
IsSecond ls ps refused.Memory = Unit {0}

-- the precedences of the tokens, or a second one for a token
abbrev pub TellsPrecedences : List Name → List Listing → Result (Vec (Option Precedence)) Refused →
    Type 0
TellsPrecedences ns ls (Ok v) = IsTold gives_of ns ls v.items
TellsPrecedences ns ls (Err (refused.Mistake what at)) = IsTwicePrecedence what ls
TellsPrecedences ns ls (Err refused.Memory) = Unit {0}
