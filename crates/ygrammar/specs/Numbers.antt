-- Numbers for those tokens that have none of their own: in order, the least unused from 257 on.
use Rattle.std.specs.Prelude.{ℕ, ◌≡◌, ◌≢◌, ◌<◌, ◌≤◌, ◌⊎◌, Bool, true, false, List, length, map}
use Rattle.std.specs.Prelude.{Option, Some, None, slice_get, slice_index_or, if◌then◌else◌, ◌==◌}
use Rattle.std.specs.Prelude.{unwrap_or}
use Rattle.ydeclarations.specs.declared.outline.Listed.{Listed}
use Rattle.ydeclarations.specs.Elaboration.{Listing, digits_number, listed_name}
use Rattle.ydeclarations.specs.Outline.{listed_view}
use Rattle.ydeclarations.specs.Owned.{IsFit}
use Rattle.ysymbols.specs.Names.{Name, number_in}
use Rattle.ysyntax.specs.declared.tree.Digits.{Digits}
use Rattle.ygrammar.specs.declared.holders.Holders.{Holders}
use Rattle.ygrammar.specs.declared.holders.Holders.TheVariants.{Nobody, One, Several}

-- a number that some token has by itself
abbrev pub IsOwn : List (Option ℕ) → ℕ → Type 0
IsOwn own m = (i : ℕ) × (slice_get own i ≡ Some (Some m))

-- The number at i is the least from 257 on that nobody has and that none before it was given.
pub record IsLeast (own : List (Option ℕ)) (ns : List ℕ) (i m : ℕ) : Type 0 where
  pub low : 257 ≤ m
  pub free : IsOwn own m → ⊥
  pub above : (j p : ℕ) → j < i → slice_get own j ≡ Some None → slice_get ns j ≡ Some p → p < m
  pub least : (u : ℕ) → 257 ≤ u → u < m →
      IsOwn own u ⊎ ((j : ℕ) × (j < i) × (slice_get own j ≡ Some None) × (slice_get ns j ≡ Some u))

-- The numbers of the tokens: their own, and for the others the least unused.
pub record AreNumbers (own : List (Option ℕ)) (ns : List ℕ) : Type 0 where
  pub each : length ns ≡ length own
  pub kept : (i m : ℕ) → slice_get own i ≡ Some (Some m) → slice_get ns i ≡ Some m
  pub given : (i m : ℕ) → slice_get own i ≡ Some None → slice_get ns i ≡ Some m →
      IsLeast own ns i m

-- a token holds the number
abbrev pub is_held : Holders → Bool
is_held Nobody = false
is_held (One k) = true
is_held Several = true

-- the holders of a number, this token among them
abbrev pub with_holder : Holders → ℕ → Holders
with_holder Nobody k = One k
with_holder (One j) k = if j == k then One j else Several
with_holder Several k = Several

-- which tokens hold a number: none, only this one, or two different ones at least
abbrev pub IsHolders : Holders → (ℕ → Type 0) → Type 0
IsHolders Nobody holds = (k : ℕ) → holds k → ⊥
IsHolders (One k) holds = holds k × ((j : ℕ) → holds j → j ≡ k)
IsHolders Several holds = (j : ℕ) × (k : ℕ) × (j ≢ k) × holds j × holds k

-- Of each number below `count` the tokens that have it by themselves; from there on nobody has one.
pub record AreHolders (count : ℕ) (own : List (Option ℕ)) (table : List Holders) : Type 0 where
  pub each : length table ≡ count
  pub exact : (m : ℕ) →
      IsHolders (slice_index_or table m Nobody) (λ k. slice_get own k ≡ Some (Some m))

-- one of so many listings gives the number, one in range, to the token k
abbrev pub IsGiven : List Name → List Listing → ℕ → ℕ → ℕ → Type 0
IsGiven ns ls upto m k = (j : ℕ) × (l : Listing) × (j < upto) × (slice_get ls j ≡ Some l)
    × (k ≡ number_in ns (listed_name l)) × (digits_number l ≡ Some m) × IsFit m

-- the token k has the number by itself, or one of so many listings gives it
abbrev pub HasNumber : List Name → List (Option ℕ) → List Listing → ℕ → ℕ → ℕ → Type 0
HasNumber ns own ls upto m k = (slice_get own k ≡ Some (Some m)) ⊎ IsGiven ns ls upto m k

-- the listing after i others gives a number that is out of range, or not before the listing at
-- fault, or that several tokens hold
abbrev pub IsFaulty : List Listed → Option ℕ → List Holders → ℕ → Type 0
IsFaulty ls fault holders i = (l : Listing) × (m : ℕ) × (slice_get (map listed_view ls) i ≡ Some l)
    × (digits_number l ≡ Some m) × ((IsFit m → ⊥) ⊎ ((unwrap_or fault (length ls) ≤ i)
    ⊎ (slice_index_or holders m Nobody ≡ Several)))

-- The first faulty number is that of the listing after i others, and stands at the place.
pub record IsFirstFaulty (ls : List Listed) (fault : Option ℕ) (holders : List Holders) (at : ℕ)
    : Type 0 where
  pub i : ℕ
  pub bad : IsFaulty ls fault holders i
  pub first : (j : ℕ) → j < i → IsFaulty ls fault holders j → ⊥
  pub listed : Listed
  pub digits : Digits
  pub there : slice_get ls i ≡ Some listed
  pub numbered : listed.digits ≡ Some digits
  pub place : at ≡ digits.at

-- the place of the first faulty number, or 0
abbrev pub FaultyAt : List Listed → Option ℕ → List Holders → ℕ → Type 0
FaultyAt ls fault holders at = IsFirstFaulty ls fault holders at
    ⊎ (((i : ℕ) → IsFaulty ls fault holders i → ⊥) × (at ≡ 0))
